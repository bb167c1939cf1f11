-- Readers at two levels of nesting answer alike, unless the lower one answers that it is too deep, and then the higher one goes on.
use Rattle.std.proofs.Common.{◌≡◌, ℕ, zero, suc, ◌≤◌, Bool, true, false, cond, List, [], ◌∷◌, ◌++◌, ◌⊎◌, inl, inr, length, refl, sym, ap, ◌∙◌, subst, arith}
use Rattle.std.specs.Prelude.{Option, Some, None, ◌&&◌}
use Rattle.c_parts.specs.declared.lexeme.Lexeme.{Lexeme}
use Rattle.c_parts.specs.Scopes.{State}
use Rattle.c_parts.specs.Part.{Part}
use Rattle.c_parts.specs.Reading.{Why, Syntax, Deep, Answer, Took, Refused, Reader, Test, left_of, and_then, pure, ◌>>=◌, ahead, accept, take_one, in_turn_by, either, shape_of, reshape, times, repeat, carried, either_two, ahead_two, refuse, deep_if}
use Rattle.c_parts.proofs.Laws.{Sound, Reached, Opens, Reads, Solid, shrinks, left-second, left-shrinks}
use Rattle.c_parts.proofs.Many.{Repeats, more-left, again-shrinks}

pub record Deeper {X : Type 0} (a b : Answer X) : Type 0 where
  pub token : Lexeme
  pub rest : List Lexeme
  pub deep : a ≡ Refused Deep (token ∷ rest)
  pub further : length (left_of b) ≤ length rest

abbrev pub why_deep : Why → Bool
why_deep Syntax = false
why_deep Deep = true

abbrev pub is_deep : {X : Type 0} → Answer X → Bool
is_deep (Took x rest m) = false
is_deep (Refused why rest) = why_deep why

-- Strictly: a too deep answer isn't repeated at the higher level.
abbrev pub Agree : {X : Type 0} → Bool → Answer X → Answer X → Type 0
Agree strict a b = ((is_deep a && strict ≡ false) × (a ≡ b)) ⊎ Deeper a b

pub record Agrees {X : Type 0} (strict : Bool) (r s : Reader X) : Type 0 where
  pub agree : (n : State) (ts : List Lexeme) → Agree strict (r n ts) (s n ts)

never-strict : (b : Bool) → b && false ≡ false
never-strict true = refl
never-strict false = refl

-- any reader agrees with itself, but strictly only one that is never too deep
pub loose-agrees : {X : Type 0} (r : Reader X) → Agrees false r r
loose-agrees r = record { agree = λ n ts. inl (never-strict (is_deep (r n ts)), refl) }

pub same-agrees : {X : Type 0} {strict : Bool} (r : Reader X) → ((n : State) (ts : List Lexeme) → is_deep (r n ts) ≡ false) → Agrees strict r r
same-agrees {X} {strict} r h = record { agree = λ n ts. inl (ap (λ b. b && strict) (h n ts), refl) }

accept-deep : {X : Type 0} (o : Option X) (t : Lexeme) (ts : List Lexeme) (n : State) → is_deep (accept o t ts n) ≡ false
accept-deep (Some x) t ts n = refl
accept-deep None t ts n = refl

one-deep : {X : Type 0} (f : State → Lexeme → Option X) (n : State) (ts : List Lexeme) → is_deep (take_one f n ts) ≡ false
one-deep f n [] = refl
one-deep f n (t ∷ ts) = accept-deep (f n t) t ts n

pub one-agrees : {X : Type 0} {strict : Bool} (f : State → Lexeme → Option X) → Agrees strict (take_one f) (take_one f)
one-agrees f = same-agrees (take_one f) (one-deep f)

-- ---- in turn

module _ {A B : Type 0} {strict : Bool} {q : A → Part B} {sq : A → Test} {gq : Test} {r r' : Reader A} {s s' : A → Reader B} (rq : (x : A) → Reads (q x) (sq x) gq (s' x)) (ar : Agrees strict r r') (as' : (x : A) → Agrees strict (s x) (s' x)) where
  second-deep : (x : A) (b : Answer B) → is_deep {X = A × B} (and_then b (λ y. pure (x, y))) ≡ is_deep b
  second-deep x (Took y rest m) = refl
  second-deep x (Refused why rest) = refl

  second-agree : (x : A) (b c : Answer B) → Agree strict b c → Agree {X = A × B} strict (and_then b (λ y. pure (x, y))) (and_then c (λ y. pure (x, y)))
  second-agree x b c h = elim h [
    | inl e ↦ inl (ap (λ b. b && strict) (second-deep x b) ∙ e.0, ap (λ b. and_then b (λ y. pure (x, y))) e.1)
    | inr d ↦ inr (record {
      token = d.token;
      rest = d.rest;
      deep = ap (λ b. and_then b (λ y. pure (x, y))) d.deep;
      further = subst (λ l. length l ≤ length d.rest) (sym (left-second rq x c)) d.further;
    })
  ]

  first-agree : (a : Answer A) → is_deep a && strict ≡ false → Agree {X = A × B} strict (and_then a (λ x. s x >>= λ y. pure (x, y))) (and_then a (λ x. s' x >>= λ y. pure (x, y)))
  first-agree (Took x after k) u = second-agree x (s x k after) (s' x k after) ((as' x).agree k after)
  first-agree (Refused why rest) u = inl (u, refl)

  turn-agree : (a b : Answer A) → Agree strict a b → Agree {X = A × B} strict (and_then a (λ x. s x >>= λ y. pure (x, y))) (and_then b (λ x. s' x >>= λ y. pure (x, y)))
  turn-agree a b h = elim h [
    | inl e ↦ subst (λ c. Agree {X = A × B} strict (and_then a (λ x. s x >>= λ y. pure (x, y))) (and_then c (λ x. s' x >>= λ y. pure (x, y)))) e.1 (first-agree a e.0)
    | inr d ↦ inr (record {
      token = d.token;
      rest = d.rest;
      deep = ap (λ b. and_then b (λ x. s x >>= λ y. pure (x, y))) d.deep;
      further = omega (arith, d.further, left-shrinks rq b);
    })
  ]

  pub turn-agrees : Agrees strict (in_turn_by r s) (in_turn_by r' s')
  turn-agrees = record { agree = λ n ts. turn-agree (r n ts) (r' n ts) (ar.agree n ts) }

-- ---- either

cond-agree : {X : Type 0} (strict : Bool) (b : Bool) (x y x' y' : Answer X) → Agree strict x x' → Agree strict y y' → Agree strict (cond b x y) (cond b x' y')
cond-agree strict true x y x' y' h k = h
cond-agree strict false x y x' y' h k = k

pub either-agrees : {A : Type 0} {strict : Bool} {r r' s s' : Reader A} (test : Test) → Agrees strict r r' → Agrees strict s s' → Agrees strict (either test r s) (either test r' s')
either-agrees {A} {strict} {r} {r'} {s} {s'} test h k = record { agree = λ n ts. cond-agree strict (ahead test n ts) (r n ts) (s n ts) (r' n ts) (s' n ts) (h.agree n ts) (k.agree n ts) }

pub either-two-agrees : {A : Type 0} {strict : Bool} {r r' s s' : Reader A} (test : State → Lexeme → Lexeme → Bool) → Agrees strict r r' → Agrees strict s s' → Agrees strict (either_two test r s) (either_two test r' s')
either-two-agrees {A} {strict} {r} {r'} {s} {s'} test h k = record { agree = λ n ts. cond-agree strict (ahead_two test n ts) (r n ts) (s n ts) (r' n ts) (s' n ts) (h.agree n ts) (k.agree n ts) }

-- ---- shaped

shape-left : {A B : Type 0} (f : State → A → State → B) (g : State → A → State → State) (n : State) (a : Answer A) → left_of (shape_of f g n a) ≡ left_of a
shape-left f g n (Took x rest m) = refl
shape-left f g n (Refused why rest) = refl

shape-deep : {A B : Type 0} (f : State → A → State → B) (g : State → A → State → State) (n : State) (a : Answer A) → is_deep (shape_of f g n a) ≡ is_deep a
shape-deep f g n (Took x rest m) = refl
shape-deep f g n (Refused why rest) = refl

pub shaped-agrees : {A B : Type 0} {strict : Bool} {r r' : Reader A} (b : State → State) (f : State → A → State → B) (g : State → A → State → State) → Agrees strict r r' → Agrees strict (reshape b f g r) (reshape b f g r')
shaped-agrees {A} {B} {strict} {r} {r'} b f g h = record {
  agree = λ n ts. elim (h.agree (b n) ts) [
    | inl e ↦ inl (ap (λ b. b && strict) (shape-deep f g n (r (b n) ts)) ∙ e.0, ap (λ a. shape_of f g n a) e.1)
    | inr d ↦ inr (record {
      token = d.token;
      rest = d.rest;
      deep = ap (λ a. shape_of f g n a) d.deep;
      further = subst (λ l. length l ≤ length d.rest) (sym (shape-left f g n (r' (b n) ts))) d.further;
    })
  ];
}

-- ---- many

module _ {A : Type 0} {strict : Bool} {p : Part A} {sp gp goes_on : Test} {r r' : Reader A} (rp : Reads p sp gp r') (j : Repeats p sp gp goes_on) (ar : Agrees strict r r') where
  abbrev again_low : ℕ → A → Reader (List A)
  again_low k a = times sp r k >>= λ more. pure (a ∷ more)

  abbrev again_high : ℕ → A → Reader (List A)
  again_high k a = times sp r' k >>= λ more. pure (a ∷ more)

  more-deep : (x : A) (b : Answer (List A)) → is_deep {X = List A} (and_then b (λ y. pure (x ∷ y))) ≡ is_deep b
  more-deep x (Took y rest m) = refl
  more-deep x (Refused why rest) = refl

  more-agree : (x : A) (b c : Answer (List A)) → Agree strict b c → Agree {X = List A} strict (and_then b (λ y. pure (x ∷ y))) (and_then c (λ y. pure (x ∷ y)))
  more-agree x b c h = elim h [
    | inl e ↦ inl (ap (λ b. b && strict) (more-deep x b) ∙ e.0, ap (λ b. and_then b (λ y. pure (x ∷ y))) e.1)
    | inr d ↦ inr (record {
      token = d.token;
      rest = d.rest;
      deep = ap (λ b. and_then b (λ y. pure (x ∷ y))) d.deep;
      further = subst (λ l. length l ≤ length d.rest) (sym (more-left rp j x c)) d.further;
    })
  ]

  again-agree : (c : ℕ) → ((n : State) (ts : List Lexeme) → Agree strict (times sp r c n ts) (times sp r' c n ts)) → (a : Answer A) → is_deep a && strict ≡ false
      → Agree {X = List A} strict (and_then a (again_low c)) (and_then a (again_high c))
  again-agree c ih (Took x after k) u = more-agree x (times sp r c k after) (times sp r' c k after) (ih k after)
  again-agree c ih (Refused why rest) u = inl (u, refl)

  step-agree : (c : ℕ) → ((n : State) (ts : List Lexeme) → Agree strict (times sp r c n ts) (times sp r' c n ts)) → (a b : Answer A) → Agree strict a b
      → Agree {X = List A} strict (and_then a (again_low c)) (and_then b (again_high c))
  step-agree c ih a b h = elim h [
    | inl e ↦ subst (λ d. Agree {X = List A} strict (and_then a (again_low c)) (and_then d (again_high c))) e.1 (again-agree c ih a e.0)
    | inr d ↦ inr (record { token = d.token; rest = d.rest; deep = ap (λ b. and_then b (again_low c)) d.deep; further = omega (arith, d.further, again-shrinks rp j c b) })
  ]

  many-agree : (c : ℕ) (n : State) (ts : List Lexeme) → Agree strict (times sp r c n ts) (times sp r' c n ts)
  many-agree zero n ts = inl (refl, refl)
  many-agree (suc c) n ts =
      cond-agree strict (ahead sp n ts) (and_then (r n ts) (again_low c)) (Took [] ts n) (and_then (r' n ts) (again_high c)) (Took [] ts n)
      (step-agree c (many-agree c) (r n ts) (r' n ts) (ar.agree n ts)) (inl (refl, refl))

  pub many-agrees : Agrees strict (repeat sp r) (repeat sp r')
  many-agrees = record { agree = λ n ts. many-agree (length ts) n ts }

-- ---- carried

module _ {A B : Type 0} {strict : Bool} {q : Part B} {sq gq : Test} {r r' : Reader A} {s s' : Reader B} (lone : A → Bool) (ops : Test) (f : A × B → A) (rq : Reads q sq gq s') (ar : Agrees strict r r') (as' : Agrees strict s s') where
  abbrev go_low : A → Reader A
  go_low a k after = cond (lone a && ahead ops k after) (and_then (s k after) (λ b. pure (f (a, b)))) (Took a after k)

  abbrev go_high : A → Reader A
  go_high a k after = cond (lone a && ahead ops k after) (and_then (s' k after) (λ b. pure (f (a, b)))) (Took a after k)

  carry-left : (x : A) (b : Answer B) → left_of {X = A} (and_then b (λ y. pure (f (x, y)))) ≡ left_of b
  carry-left x (Took y rest m) = refl
  carry-left x (Refused why rest) = refl

  carry-deep : (x : A) (b : Answer B) → is_deep {X = A} (and_then b (λ y. pure (f (x, y)))) ≡ is_deep b
  carry-deep x (Took y rest m) = refl
  carry-deep x (Refused why rest) = refl

  carry-second : (x : A) (b c : Answer B) → Agree strict b c → Agree {X = A} strict (and_then b (λ y. pure (f (x, y)))) (and_then c (λ y. pure (f (x, y))))
  carry-second x b c h = elim h [
    | inl e ↦ inl (ap (λ b. b && strict) (carry-deep x b) ∙ e.0, ap (λ b. and_then b (λ y. pure (f (x, y)))) e.1)
    | inr d ↦ inr (record {
      token = d.token;
      rest = d.rest;
      deep = ap (λ b. and_then b (λ y. pure (f (x, y)))) d.deep;
      further = subst (λ l. length l ≤ length d.rest) (sym (carry-left x c)) d.further;
    })
  ]

  carry-first : (a : Answer A) → is_deep a && strict ≡ false → Agree {X = A} strict (and_then a go_low) (and_then a go_high)
  carry-first (Took x after k) u =
      cond-agree strict (lone x && ahead ops k after) (and_then (s k after) (λ b. pure (f (x, b)))) (Took x after k) (and_then (s' k after) (λ b. pure (f (x, b)))) (Took x after k)
      (carry-second x (s k after) (s' k after) (as'.agree k after)) (inl (refl, refl))
  carry-first (Refused why rest) u = inl (u, refl)

  high-shrinks-at : (x : A) (after : List Lexeme) (k : State) (b : Bool) → length (left_of (cond b (and_then (s' k after) (λ y. pure (f (x, y)))) (Took x after k))) ≤ length after
  high-shrinks-at x after k true = subst (λ l. length l ≤ length after) (sym (carry-left x (s' k after))) (shrinks (rq.reached k after))
  high-shrinks-at x after k false = omega arith

  high-shrinks : (a : Answer A) → length (left_of (and_then a go_high)) ≤ length (left_of a)
  high-shrinks (Took x after k) = high-shrinks-at x after k (lone x && ahead ops k after)
  high-shrinks (Refused why rest) = omega arith

  carry-agree : (a b : Answer A) → Agree strict a b → Agree {X = A} strict (and_then a go_low) (and_then b go_high)
  carry-agree a b h = elim h [
    | inl e ↦ subst (λ c. Agree {X = A} strict (and_then a go_low) (and_then c go_high)) e.1 (carry-first a e.0)
    | inr d ↦ inr (record { token = d.token; rest = d.rest; deep = ap (λ b. and_then b go_low) d.deep; further = omega (arith, d.further, high-shrinks b) })
  ]

  pub carry-agrees : Agrees strict (carried lone ops r s f) (carried lone ops r' s' f)
  carry-agrees = record { agree = λ n ts. carry-agree (r n ts) (r' n ts) (ar.agree n ts) }

-- ---- where there is no room

-- each token that may begin it is a front of it
abbrev pub Alone : {X : Type 0} → Part X → Test → Type 0
Alone p starts = (n : State) (t : Lexeme) → starts n t ≡ true → p.Front n (t ∷ [])

module _ {X : Type 0} {p : Part X} {sp gp : Test} {r : Reader X} (rp : Reads p sp gp r) (solid : Solid p) where
  unlike : (n : State) (ts us rest : List Lexeme) → ts ≡ us ++ rest → p.Front n us → ahead sp n ts ≡ false → us ≡ []
  unlike n ts [] rest e h a = refl
  unlike n ts (t ∷ us) rest e h a =
      let yes : sp n t ≡ true = rp.begins n t us h in
      let off : sp n t ≡ false = subst (λ l. ahead sp n l ≡ false) e a in
      absurd (let f : true ≡ false = sym yes ∙ off in cc)

  unbegun-at : (n : State) (ts : List Lexeme) (a : Answer X) → Sound p n ts a → Reached p n ts (left_of a) → Opens sp n ts a → ahead sp n ts ≡ false → a ≡ Refused Syntax ts
  unbegun-at n ts (Took x rest m) h w o a =
      absurd (solid n x m (subst (λ l. p.Spells n l x m) (unlike n ts h.taken rest h.whole (rp.front n h.taken x m h.spells) a) h.spells))
  unbegun-at n ts (Refused Syntax rest) h w o a = ap (λ l. Refused Syntax l) (sym (w.whole ∙ ap (λ l. l ++ rest) (unlike n ts w.taken rest w.whole w.front a)))
  unbegun-at n ts (Refused Deep rest) h w o a =
      let yes : ahead sp n ts ≡ true = o (w.whole ∙ ap (λ l. l ++ rest) (unlike n ts w.taken rest w.whole w.front a)) in
      absurd (let f : true ≡ false = sym yes ∙ a in cc)

  -- a part that the next token doesn't begin is refused there
  pub unbegun : (n : State) (ts : List Lexeme) → ahead sp n ts ≡ false → r n ts ≡ Refused Syntax ts
  unbegun n ts a = unbegun-at n ts (r n ts) (rp.sound n ts) (rp.reached n ts) (rp.opens n ts) a

  room-agree : (strict : Bool) (alone : Alone p sp) (n : State) (t : Lexeme) (ts : List Lexeme) (b : Bool) → sp n t ≡ b → Agree strict (Refused (cond b Deep Syntax) (t ∷ ts)) (r n (t ∷ ts))
  room-agree strict alone n t ts true e = inr (record { token = t; rest = ts; deep = refl; further = rp.no_further n (t ∷ []) ts (alone n t e) })
  room-agree strict alone n t ts false e = inl (refl, sym (unbegun n (t ∷ ts) e))

  room-at : (strict : Bool) (alone : Alone p sp) (n : State) (ts : List Lexeme) → Agree strict (refuse (deep_if sp) n ts) (r n ts)
  room-at strict alone n [] = inl (refl, sym (unbegun n [] refl))
  room-at strict alone n (t ∷ ts) = room-agree strict alone n t ts (sp n t) refl

  pub room-agrees : (strict : Bool) → Alone p sp → Agrees strict (refuse (deep_if sp)) r
  room-agrees strict alone = record { agree = room-at strict alone }
