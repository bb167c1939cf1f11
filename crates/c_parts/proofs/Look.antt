-- Either of two parts that begin alike, told apart by the token behind.
use Rattle.std.proofs.Common.{◌≡◌, ◌≤◌, Bool, true, false, cond, List, [], ◌∷◌, ◌++◌, inl, inr, length, refl, sym, ap, ◌∙◌, subst}
use Rattle.c_parts.specs.declared.lexeme.Lexeme.{Lexeme}
use Rattle.c_parts.specs.Scopes.{State}
use Rattle.c_parts.specs.Part.{Part, ◌⊔◌}
use Rattle.c_parts.specs.Reading.{Syntax, Deep, Answer, Took, Refused, Reader, Test, left_of, ahead, ahead_two, either_two}
use Rattle.c_parts.proofs.Laws.{Sound, Reached, Opens, Reads, Solid, shrinks}

abbrev pub Test2 : Type 0
Test2 = State → Lexeme → Lexeme → Bool

pub record Looks {A : Type 0} (p q : Part A) (two : Test2) (sp gp sq gq starts goes_on : Test) : Type 0 where
  pub solid_left : Solid p
  pub solid_right : Solid q
  pub left : (n : State) (t u : Lexeme) (us : List Lexeme) → p.Front n (t ∷ u ∷ us) → two n t u ≡ true
  pub right : (n : State) (t u : Lexeme) (us : List Lexeme) → q.Front n (t ∷ u ∷ us) → two n t u ≡ false
  -- p has two tokens at least, and no q of one token is taken for a p
  pub long : (n : State) (t : Lexeme) (x : A) (m : State) → p.Spells n (t ∷ []) x m → ⊥
  pub alone : (n : State) (t u : Lexeme) (x : A) (m : State) → q.Spells n (t ∷ []) x m → two n t u ≡ false
  -- what may begin both does
  pub share_left : (n : State) (t u : Lexeme) → p.Front n (t ∷ []) → q.Front n (t ∷ [])
  pub share_right : (n : State) (t u : Lexeme) → q.Front n (t ∷ []) → two n t u ≡ true → p.Front n (t ∷ [])
  pub ends_left : (m : State) (t : Lexeme) → goes_on m t ≡ false → gp m t ≡ false
  pub ends_right : (m : State) (t : Lexeme) → goes_on m t ≡ false → gq m t ≡ false
  pub opens_left : (n : State) (t : Lexeme) → sp n t ≡ true → starts n t ≡ true
  pub opens_right : (n : State) (t : Lexeme) → sq n t ≡ true → starts n t ≡ true

module _ {A : Type 0} {p q : Part A} {two : Test2} {sp gp sq gq starts goes_on : Test} {r s : Reader A}
    (rp : Reads p sp gp r) (rq : Reads q sq gq s) (j : Looks p q two sp gp sq gq starts goes_on) where
  look-sound : (n : State) (ts : List Lexeme) (b : Bool) (x y : Answer A) → Sound p n ts x → Sound q n ts y → Sound (p ⊔ q) n ts (cond b x y)
  look-sound n ts true (Took x rest m) y h k = record { taken = h.taken; whole = h.whole; spells = inl h.spells }
  look-sound n ts true (Refused why rest) y h k = tt
  look-sound n ts false x (Took y rest m) h k = record { taken = k.taken; whole = k.whole; spells = inr k.spells }
  look-sound n ts false x (Refused why rest) h k = tt

  look-reached : (n : State) (ts : List Lexeme) (b : Bool) (x y : Answer A) → Reached p n ts (left_of x) → Reached q n ts (left_of y)
      → Reached (p ⊔ q) n ts (left_of (cond b x y))
  look-reached n ts true x y h k = record { taken = h.taken; whole = h.whole; front = inl h.front }
  look-reached n ts false x y h k = record { taken = k.taken; whole = k.whole; front = inr k.front }

  look-opens : (n : State) (ts : List Lexeme) (b : Bool) (x y : Answer A) → Opens sp n ts x → Opens sq n ts y → Opens starts n ts (cond b x y)
  look-opens n ts true (Took x rest m) y h k = tt
  look-opens n ts true (Refused Syntax rest) y h k = tt
  look-opens n [] true (Refused Deep rest) y h k = h
  look-opens n (t ∷ ts) true (Refused Deep rest) y h k = λ e. j.opens_left n t (h e)
  look-opens n ts false x (Took y rest m) h k = tt
  look-opens n ts false x (Refused Syntax rest) h k = tt
  look-opens n [] false x (Refused Deep rest) h k = k
  look-opens n (t ∷ ts) false x (Refused Deep rest) h k = λ e. j.opens_right n t (k e)

  look-reached-all : (n : State) (ts : List Lexeme) → Reached (p ⊔ q) n ts (left_of (either_two two r s n ts))
  look-reached-all n ts = look-reached n ts (ahead_two two n ts) (r n ts) (s n ts) (rp.reached n ts) (rq.reached n ts)

  to-left : (n : State) (us : List Lexeme) → ahead_two two n us ≡ true → either_two two r s n us ≡ r n us
  to-left n us e = ap (λ b. cond b (r n us) (s n us)) e

  to-right : (n : State) (us : List Lexeme) → ahead_two two n us ≡ false → either_two two r s n us ≡ s n us
  to-right n us e = ap (λ b. cond b (r n us) (s n us)) e

  over-left : (m : State) (rest : List Lexeme) → ahead goes_on m rest ≡ false → ahead gp m rest ≡ false
  over-left m [] e = refl
  over-left m (t ∷ rest) e = j.ends_left m t e

  over-right : (m : State) (rest : List Lexeme) → ahead goes_on m rest ≡ false → ahead gq m rest ≡ false
  over-right m [] e = refl
  over-right m (t ∷ rest) e = j.ends_right m t e

  look-complete-left : (n : State) (us : List Lexeme) (x : A) (m : State) (rest : List Lexeme) → p.Spells n us x m → ahead goes_on m rest ≡ false
      → either_two two r s n (us ++ rest) ≡ Took x rest m
  look-complete-left n [] x m rest h e = absurd (j.solid_left n x m h)
  look-complete-left n (t ∷ []) x m rest h e = absurd (j.long n t x m h)
  look-complete-left n (t ∷ u ∷ us) x m rest h e =
      to-left n (t ∷ u ∷ (us ++ rest)) (j.left n t u us (rp.front n (t ∷ u ∷ us) x m h)) ∙ rp.complete n (t ∷ u ∷ us) x m rest h (over-left m rest e)

  look-alone : (n : State) (t : Lexeme) (x : A) (m : State) (rest : List Lexeme) → q.Spells n (t ∷ []) x m → ahead_two two n (t ∷ rest) ≡ false
  look-alone n t x m [] h = refl
  look-alone n t x m (u ∷ rest) h = j.alone n t u x m h

  look-complete-right : (n : State) (us : List Lexeme) (x : A) (m : State) (rest : List Lexeme) → q.Spells n us x m → ahead goes_on m rest ≡ false
      → either_two two r s n (us ++ rest) ≡ Took x rest m
  look-complete-right n [] x m rest h e = absurd (j.solid_right n x m h)
  look-complete-right n (t ∷ []) x m rest h e = to-right n (t ∷ rest) (look-alone n t x m rest h) ∙ rq.complete n (t ∷ []) x m rest h (over-right m rest e)
  look-complete-right n (t ∷ u ∷ us) x m rest h e =
      to-right n (t ∷ u ∷ (us ++ rest)) (j.right n t u us (rq.front n (t ∷ u ∷ us) x m h)) ∙ rq.complete n (t ∷ u ∷ us) x m rest h (over-right m rest e)

  -- one token that both may begin with: whichever reads on, it takes that token
  look-one : (n : State) (t : Lexeme) (vs : List Lexeme) (b : Bool) → ((b ≡ true) → p.Front n (t ∷ [])) → ((b ≡ false) → q.Front n (t ∷ []))
      → length (left_of (cond b (r n (t ∷ vs)) (s n (t ∷ vs)))) ≤ length vs
  look-one n t vs true h k = rp.no_further n (t ∷ []) vs (h refl)
  look-one n t vs false h k = rq.no_further n (t ∷ []) vs (k refl)

  look-two : (n : State) (t : Lexeme) (vs : List Lexeme) → q.Front n (t ∷ []) → ahead_two two n (t ∷ vs) ≡ true → p.Front n (t ∷ [])
  look-two n t [] h e = absurd cc
  look-two n t (u ∷ vs) h e = j.share_right n t u h e

  look-far-left : (n : State) (us vs : List Lexeme) → p.Front n us → length (left_of (either_two two r s n (us ++ vs))) ≤ length vs
  look-far-left n [] vs h = shrinks (look-reached-all n vs)
  look-far-left n (t ∷ []) vs h = look-one n t vs (ahead_two two n (t ∷ vs)) (λ e. h) (λ e. j.share_left n t t h)
  look-far-left n (t ∷ u ∷ us) vs h =
      subst (λ a. length (left_of a) ≤ length vs) (sym (to-left n (t ∷ u ∷ (us ++ vs)) (j.left n t u us h))) (rp.no_further n (t ∷ u ∷ us) vs h)

  look-far-right : (n : State) (us vs : List Lexeme) → q.Front n us → length (left_of (either_two two r s n (us ++ vs))) ≤ length vs
  look-far-right n [] vs h = shrinks (look-reached-all n vs)
  look-far-right n (t ∷ []) vs h = look-one n t vs (ahead_two two n (t ∷ vs)) (λ e. look-two n t vs h e) (λ e. h)
  look-far-right n (t ∷ u ∷ us) vs h =
      subst (λ a. length (left_of a) ≤ length vs) (sym (to-right n (t ∷ u ∷ (us ++ vs)) (j.right n t u us h))) (rq.no_further n (t ∷ u ∷ us) vs h)

  pub looking : Reads (p ⊔ q) starts goes_on (either_two two r s)
  looking = record {
    sound = λ n ts. look-sound n ts (ahead_two two n ts) (r n ts) (s n ts) (rp.sound n ts) (rq.sound n ts);
    complete = λ n us x m rest h e. elim h [ inl w ↦ look-complete-left n us x m rest w e | inr w ↦ look-complete-right n us x m rest w e ];
    reached = look-reached-all;
    no_further = λ n us vs h. elim h [ inl w ↦ look-far-left n us vs w | inr w ↦ look-far-right n us vs w ];
    opens = λ n ts. look-opens n ts (ahead_two two n ts) (r n ts) (s n ts) (rp.opens n ts) (rq.opens n ts);
    begins = λ n t us h. elim h [ inl w ↦ j.opens_left n t (rp.begins n t us w) | inr w ↦ j.opens_right n t (rq.begins n t us w) ];
    front = λ n us x m h. elim h [ inl w ↦ inl (rp.front n us x m w) | inr w ↦ inr (rq.front n us x m w) ];
    empty = λ n x m h. elim h [ inl w ↦ rp.empty n x m w | inr w ↦ rq.empty n x m w ];
    nil = λ n. inl (rp.nil n);
    keeps = λ n us x m h. elim h [ inl w ↦ rp.keeps n us x m w | inr w ↦ rq.keeps n us x m w ];
    closed = λ n us vs h. elim h [ inl w ↦ inl (rp.closed n us vs w) | inr w ↦ inr (rq.closed n us vs w) ];
  }
