-- What a reader owes to its part of the grammar, and that each way to put parts together keeps it.
use Rattle.std.proofs.Common.{◌≡◌, suc, ◌+◌, ◌≤◌, Bool, true, false, cond, List, [], ◌∷◌, ◌++◌, ◌⊎◌, inl, inr, length, refl, sym, ap, ◌∙◌, subst, arith, length-append, append_assoc, append-nil}
use Rattle.std.specs.Prelude.{Option, Some, None}
use Rattle.c_parts.specs.declared.lexeme.Lexeme.{Lexeme}
use Rattle.c_parts.specs.Scopes.{State, next, outer_scopes}
use Rattle.c_parts.specs.Part.{Part, OneFront, one, ◌&>◌, ◌⊔◌, shaped, nothing, never, Stops}
use Rattle.c_parts.specs.Reading.{Syntax, Deep, Answer, Took, Refused, Reader, Test, left_of, and_then, pure, ◌>>=◌, ahead, accept, take_one, in_turn_by, either, shape_of, reshape, refuse, deep_if}

-- The value is spelled by the tokens that were taken.
pub record Taken {X : Type 0} (p : Part X) (n : State) (ts : List Lexeme) (x : X) (rest : List Lexeme) (m : State) : Type 0 where
  pub taken : List Lexeme
  pub whole : ts ≡ taken ++ rest
  pub spells : p.Spells n taken x m

abbrev pub Sound : {X : Type 0} → Part X → State → List Lexeme → Answer X → Type 0
Sound p n ts (Took x rest m) = Taken p n ts x rest m
Sound p n ts (Refused why rest) = Unit {0}

-- The tokens before those that are left are a front.
pub record Reached {X : Type 0} (p : Part X) (n : State) (ts rest : List Lexeme) : Type 0 where
  pub taken : List Lexeme
  pub whole : ts ≡ taken ++ rest
  pub front : p.Front n taken

-- What is refused at once as too deep may begin the part.
abbrev pub Opens : {X : Type 0} → Test → State → List Lexeme → Answer X → Type 0
Opens starts n ts (Took x rest m) = Unit {0}
Opens starts n ts (Refused Syntax rest) = Unit {0}
Opens starts n ts (Refused Deep rest) = ts ≡ rest → ahead starts n ts ≡ true

-- r reads p. `starts` are the tokens that p can begin with, `goes_on` those that could carry on after a whole p.
pub record Reads {X : Type 0} (p : Part X) (starts goes_on : Test) (r : Reader X) : Type 0 where
  pub sound : (n : State) (ts : List Lexeme) → Sound p n ts (r n ts)
  pub complete : (n : State) (us : List Lexeme) (x : X) (m : State) (rest : List Lexeme) → p.Spells n us x m → ahead goes_on m rest ≡ false
      → r n (us ++ rest) ≡ Took x rest m
  pub reached : (n : State) (ts : List Lexeme) → Reached p n ts (left_of (r n ts))
  pub no_further : (n : State) (us vs : List Lexeme) → p.Front n us → length (left_of (r n (us ++ vs))) ≤ length vs
  pub opens : (n : State) (ts : List Lexeme) → Opens starts n ts (r n ts)
  pub begins : (n : State) (t : Lexeme) (us : List Lexeme) → p.Front n (t ∷ us) → starts n t ≡ true
  pub front : (n : State) (us : List Lexeme) (x : X) (m : State) → p.Spells n us x m → p.Front n us
  pub empty : (n : State) (x : X) (m : State) → p.Spells n [] x m → m ≡ n
  pub nil : (n : State) → p.Front n []
  -- the scopes round the innermost one stay
  pub keeps : (n : State) (us : List Lexeme) (x : X) (m : State) → p.Spells n us x m → outer_scopes m.scopes ≡ outer_scopes n.scopes
  -- what begins a front is one
  pub closed : (n : State) (us vs : List Lexeme) → p.Front n (us ++ vs) → p.Front n us

abbrev pub Solid : {X : Type 0} → Part X → Type 0
Solid {X} p = (n : State) (x : X) (m : State) → p.Spells n [] x m → ⊥

-- ---- lists

pub left-nil : (f g : List Lexeme) → [] ≡ f ++ g → f ≡ []
left-nil [] g e = refl
left-nil (t ∷ f) g e = cc

pub right-nil : (f g : List Lexeme) → [] ≡ f ++ g → g ≡ []
right-nil [] g e = sym e
right-nil (t ∷ f) g e = cc

-- where one list ends inside two that make the same whole
pub record Within (us f : List Lexeme) : Type 0 where
  pub more : List Lexeme
  pub whole : f ≡ us ++ more

pub record Beyond (us vs f g : List Lexeme) : Type 0 where
  pub more : List Lexeme
  pub whole : us ≡ f ++ more
  pub rest : g ≡ more ++ vs

pub split : (us vs f g : List Lexeme) → us ++ vs ≡ f ++ g → Within us f ⊎ Beyond us vs f g
split [] vs f g e = inl (record { more = f; whole = refl })
split (t ∷ us) vs [] g e = inr (record { more = t ∷ us; whole = refl; rest = sym e })
split (t ∷ us) vs (u ∷ f) g e =
    let same : t ≡ u = cc in
    let tail : us ++ vs ≡ f ++ g = cc in
    elim (split us vs f g tail) [
      | inl w ↦ inl (record { more = w.more; whole = ap (λ x. x ∷ f) (sym same) ∙ ap (λ l. t ∷ l) w.whole })
      | inr w ↦ inr (record { more = w.more; whole = ap (λ x. x ∷ us) same ∙ ap (λ l. u ∷ l) w.whole; rest = w.rest })
    ]

pub shorter : (ts us vs : List Lexeme) → ts ≡ us ++ vs → length vs ≤ length ts
shorter ts us vs e = let l : length ts ≡ length us + length vs = ap length e ∙ length-append us vs in omega (arith, l)

-- what comes back to the beginning took nothing
pub none-taken : (ts u v : List Lexeme) → ts ≡ u ++ v → length ts ≤ length v → u ≡ []
none-taken ts [] v e l = refl
none-taken ts (t ∷ u) v e l = let k : length ts ≡ suc (length u) + length v = ap length e ∙ length-append (t ∷ u) v in absurd (omega (arith, k, l))

pub shrinks : {X : Type 0} {p : Part X} {n : State} {ts rest : List Lexeme} → Reached p n ts rest → length rest ≤ length ts
shrinks {X} {p} {n} {ts} {rest} h = shorter ts h.taken rest h.whole

pub not-both : (b : Bool) → b ≡ true → b ≡ false → ⊥
not-both true h k = cc
not-both false h k = cc

-- ---- where a part ends

module _ {X : Type 0} {p : Part X} {sp gp : Test} {r : Reader X} (rp : Reads p sp gp r) where
  -- a reader that took a value stopped for a reason
  pub stopped : (n : State) (us : List Lexeme) (x : X) (rest : List Lexeme) (m : State) → r n (us ++ rest) ≡ Took x rest m → Stops p n us rest
  stopped n us x [] m e = tt
  stopped n us x (t ∷ rest) m e = λ w.
      let far : length (left_of (r n ((us ++ (t ∷ [])) ++ rest))) ≤ length rest = rp.no_further n (us ++ (t ∷ [])) rest w in
      let same : left_of (r n ((us ++ (t ∷ [])) ++ rest)) ≡ t ∷ rest = ap (λ l. left_of (r n l)) (append_assoc us (t ∷ []) rest) ∙ ap left_of e in
      let long : length (t ∷ rest) ≤ length rest = subst (λ l. length l ≤ length rest) same far in
      omega (arith, long)

-- ---- parts in turn

module _ {A B : Type 0} {q : A → Part B} {sq : A → Test} {gq : Test} {s : A → Reader B} (rq : (x : A) → Reads (q x) (sq x) gq (s x)) where
  pub left-second : (x : A) (b : Answer B) → left_of {X = A × B} (and_then b (λ y. pure (x, y))) ≡ left_of b
  left-second x (Took y rest m) = refl
  left-second x (Refused why rest) = refl

  -- the second part takes no token back
  pub left-shrinks : (a : Answer A) → length (left_of {X = A × B} (and_then a (λ x. s x >>= λ y. pure (x, y)))) ≤ length (left_of a)
  left-shrinks (Took x after k) = subst (λ l. length l ≤ length after) (sym (left-second x (s x k after))) (shrinks ((rq x).reached k after))
  left-shrinks (Refused why rest) = omega arith

  pub turn-short : {p : Part A} {sp gp : Test} {r : Reader A} (rp : Reads p sp gp r) (n : State) (us vs : List Lexeme) → p.Front n us → length (left_of (in_turn_by r s n (us ++ vs))) ≤ length vs
  turn-short {p} {sp} {gp} {r} rp n us vs h = omega (arith, rp.no_further n us vs h, left-shrinks (r n (us ++ vs)))

-- What has to hold of the tests for p &> q.
pub record Joins {A B : Type 0} (p : Part A) (q : A → Part B) (sp gp : Test) (sq : A → Test) (gq starts goes_on : Test) : Type 0 where
  -- no token that q begins with carries p on
  pub apart : (x : A) (k : State) (t : Lexeme) → sq x k t ≡ true → gp k t ≡ false
  pub ends : (m : State) (t : Lexeme) → goes_on m t ≡ false → gq m t ≡ false
  pub ends_short : (x : A) (k : State) (y : B) (m : State) (t : Lexeme) → (q x).Spells k [] y m → goes_on m t ≡ false → gp m t ≡ false
  pub opens : (n : State) (t : Lexeme) → sp n t ≡ true → starts n t ≡ true
  pub opens_short : (n : State) (x : A) (m : State) (t : Lexeme) → p.Spells n [] x m → sq x m t ≡ true → starts n t ≡ true

module _ {A B : Type 0} {p : Part A} {q : A → Part B} {sp gp : Test} {sq : A → Test} {gq starts goes_on : Test} {r : Reader A} {s : A → Reader B}
    (rp : Reads p sp gp r) (rq : (x : A) → Reads (q x) (sq x) gq (s x)) (j : Joins p q sp gp sq gq starts goes_on) where
  abbrev then_s : A → Reader (A × B)
  then_s x = s x >>= λ y. pure (x, y)

  turn-sound-second : (n : State) (ts : List Lexeme) (x : A) (after : List Lexeme) (k : State) (b : Answer B) → Taken p n ts x after k → Sound (q x) k after b
      → Sound (p &> q) n ts (and_then b (λ y. pure (x, y)))
  turn-sound-second n ts x after k (Took y rest m) tp tq =
      record {
        taken = tp.taken ++ tq.taken;
        whole = tp.whole ∙ ap (λ l. tp.taken ++ l) tq.whole ∙ sym (append_assoc tp.taken tq.taken rest);
        spells = record { first = tp.taken; second = tq.taken; between = k; whole = refl; left = tp.spells; right = tq.spells };
      }
  turn-sound-second n ts x after k (Refused why rest) tp tq = tt

  turn-sound : (n : State) (ts : List Lexeme) (a : Answer A) → Sound p n ts a → Sound (p &> q) n ts (and_then a then_s)
  turn-sound n ts (Took x after k) h = turn-sound-second n ts x after k (s x k after) h ((rq x).sound k after)
  turn-sound n ts (Refused why rest) h = tt

  turn-reached-second : (n : State) (ts : List Lexeme) (x : A) (after : List Lexeme) (k : State) (b : Answer B) → Taken p n ts x after k → Reached (q x) k after (left_of b)
      → Reached (p &> q) n ts (left_of {X = A × B} (and_then b (λ y. pure (x, y))))
  turn-reached-second n ts x after k (Took y rest m) tp tq =
      record {
        taken = tp.taken ++ tq.taken;
        whole = tp.whole ∙ ap (λ l. tp.taken ++ l) tq.whole ∙ sym (append_assoc tp.taken tq.taken rest);
        front = inr (record { first = tp.taken; second = tq.taken; value = x; between = k; whole = refl; left = tp.spells; right = tq.front });
      }
  turn-reached-second n ts x after k (Refused why rest) tp tq =
      record {
        taken = tp.taken ++ tq.taken;
        whole = tp.whole ∙ ap (λ l. tp.taken ++ l) tq.whole ∙ sym (append_assoc tp.taken tq.taken rest);
        front = inr (record { first = tp.taken; second = tq.taken; value = x; between = k; whole = refl; left = tp.spells; right = tq.front });
      }

  turn-reached : (n : State) (ts : List Lexeme) (a : Answer A) → Sound p n ts a → Reached p n ts (left_of a)
      → Reached (p &> q) n ts (left_of {X = A × B} (and_then a then_s))
  turn-reached n ts (Took x after k) h w = turn-reached-second n ts x after k (s x k after) h ((rq x).reached k after)
  turn-reached n ts (Refused why rest) h w = record { taken = w.taken; whole = w.whole; front = inl w.front }

  opens-from : (n : State) (ts : List Lexeme) → ahead sp n ts ≡ true → ahead starts n ts ≡ true
  opens-from n [] h = h
  opens-from n (t ∷ ts) h = j.opens n t h

  opens-late : (n : State) (x : A) (k : State) (ts : List Lexeme) → p.Spells n [] x k → ahead (sq x) k ts ≡ true → ahead starts n ts ≡ true
  opens-late n x k [] w h = h
  opens-late n x k (t ∷ ts) w h = j.opens_short n x k t w h

  turn-opens-second : (n : State) (ts : List Lexeme) (x : A) (after : List Lexeme) (k : State) (b : Answer B) → Taken p n ts x after k → Reached (q x) k after (left_of b)
      → Opens (sq x) k after b → Opens {X = A × B} starts n ts (and_then b (λ y. pure (x, y)))
  turn-opens-second n ts x after k (Took y rest m) tp tq o = tt
  turn-opens-second n ts x after k (Refused Syntax rest) tp tq o = tt
  turn-opens-second n ts x after k (Refused Deep rest) tp tq o = λ e.
      let none : tp.taken ≡ [] = none-taken ts tp.taken after tp.whole (subst (λ l. length l ≤ length after) (sym e) (shrinks tq)) in
      let same : ts ≡ after = tp.whole ∙ ap (λ l. l ++ after) none in
      opens-late n x k ts (subst (λ l. p.Spells n l x k) none tp.spells) (subst (λ l. ahead (sq x) k l ≡ true) (sym same) (o (sym same ∙ e)))

  turn-opens : (n : State) (ts : List Lexeme) (a : Answer A) → Sound p n ts a → Opens sp n ts a → Opens starts n ts (and_then a then_s)
  turn-opens n ts (Took x after k) h o = turn-opens-second n ts x after k (s x k after) h ((rq x).reached k after) ((rq x).opens k after)
  turn-opens n ts (Refused Syntax rest) h o = tt
  turn-opens n ts (Refused Deep rest) h o = λ e. opens-from n ts (o e)

  -- what is left after a whole p, if q follows it or the end does
  stops : (x : A) (k : State) (g : List Lexeme) (y : B) (m : State) (rest : List Lexeme) → (q x).Spells k g y m → ahead goes_on m rest ≡ false → ahead gp k (g ++ rest) ≡ false
  stops x k [] y m [] h e = refl
  stops x k [] y m (t ∷ rest) h e = subst (λ l. gp l t ≡ false) ((rq x).empty k y m h) (j.ends_short x k y m t h e)
  stops x k (t ∷ g) y m rest h e = j.apart x k t ((rq x).begins k t g ((rq x).front k (t ∷ g) y m h))

  quiet : (m : State) (rest : List Lexeme) → ahead goes_on m rest ≡ false → ahead gq m rest ≡ false
  quiet m [] e = refl
  quiet m (t ∷ rest) e = j.ends m t e

  after-first : (n : State) (f g rest : List Lexeme) (x : A) (k : State) → p.Spells n f x k → ahead gp k (g ++ rest) ≡ false
      → in_turn_by r s n ((f ++ g) ++ rest) ≡ and_then (s x k (g ++ rest)) (λ y. pure (x, y))
  after-first n f g rest x k h e =
      ap (λ l. in_turn_by r s n l) (append_assoc f g rest) ∙ ap (λ a. and_then a then_s) (rp.complete n f x k (g ++ rest) h e)

  turn-complete : (n : State) (us : List Lexeme) (x : A × B) (m : State) (rest : List Lexeme) → (p &> q).Spells n us x m → ahead goes_on m rest ≡ false
      → in_turn_by r s n (us ++ rest) ≡ Took x rest m
  turn-complete n us x m rest h e =
      ap (λ l. in_turn_by r s n (l ++ rest)) h.whole
      ∙ after-first n h.first h.second rest x.0 h.between h.left (stops x.0 h.between h.second x.1 m rest h.right e)
      ∙ ap (λ b. and_then b (λ y. pure (x.0, y))) ((rq x.0).complete h.between h.second x.1 m rest h.right (quiet m rest e))

  turn-far : (n : State) (us vs f g : List Lexeme) (x : A) (k : State) → us ≡ f ++ g → p.Spells n f x k → (q x).Front k g
      → length (left_of (in_turn_by r s n (us ++ vs))) ≤ length vs
  turn-far n us vs f [] x k e h w = turn-short rq rp n us vs (subst (λ l. p.Front n l) (sym (e ∙ append-nil f)) (rp.front n f x k h))
  turn-far n us vs f (t ∷ g) x k e h w =
      let same : left_of (in_turn_by r s n (us ++ vs)) ≡ left_of (s x k ((t ∷ g) ++ vs)) =
      ap (λ l. left_of (in_turn_by r s n (l ++ vs))) e
      ∙ ap left_of (after-first n f (t ∷ g) vs x k h (j.apart x k t ((rq x).begins k t g w)))
      ∙ left-second rq x (s x k ((t ∷ g) ++ vs)) in
      subst (λ l. length l ≤ length vs) (sym same) ((rq x).no_further k (t ∷ g) vs w)

  turn-begins-at : (n : State) (t : Lexeme) (us f g : List Lexeme) (x : A) (k : State) → t ∷ us ≡ f ++ g → p.Spells n f x k → (q x).Front k g → starts n t ≡ true
  turn-begins-at n t us [] g x k e h w = j.opens_short n x k t h ((rq x).begins k t us (subst (λ l. (q x).Front k l) (sym e) w))
  turn-begins-at n t us (u ∷ f) g x k e h w =
      let same : t ≡ u = cc in
      subst (λ l. starts n l ≡ true) (sym same) (j.opens n u (rp.begins n u f (rp.front n (u ∷ f) x k h)))

  turn-closed-at : (n : State) (us vs f g : List Lexeme) (x : A) (k : State) → p.Spells n f x k → (q x).Front k g → Within us f ⊎ Beyond us vs f g → (p &> q).Front n us
  turn-closed-at n us vs f g x k h w z = elim z [
    | inl y ↦ inl (rp.closed n us y.more (subst (λ l. p.Front n l) y.whole (rp.front n f x k h)))
    | inr y ↦ inr (record { first = f; second = y.more; value = x; between = k; whole = y.whole; left = h; right = (rq x).closed k y.more vs (subst (λ l. (q x).Front k l) y.rest w) })
  ]

  pub turn : Reads (p &> q) starts goes_on (in_turn_by r s)
  turn = record {
    sound = λ n ts. turn-sound n ts (r n ts) (rp.sound n ts);
    complete = turn-complete;
    reached = λ n ts. turn-reached n ts (r n ts) (rp.sound n ts) (rp.reached n ts);
    no_further = λ n us vs h. elim h [ inl w ↦ turn-short rq rp n us vs w | inr w ↦ turn-far n us vs w.first w.second w.value w.between w.whole w.left w.right ];
    opens = λ n ts. turn-opens n ts (r n ts) (rp.sound n ts) (rp.opens n ts);
    begins = λ n t us h. elim h [ inl w ↦ j.opens n t (rp.begins n t us w) | inr w ↦ turn-begins-at n t us w.first w.second w.value w.between w.whole w.left w.right ];
    front = λ n us x m h. inr (record { first = h.first; second = h.second; value = x.0; between = h.between; whole = h.whole; left = h.left; right = (rq x.0).front h.between h.second x.1 m h.right });
    empty = λ n x m h.
        let left : p.Spells n [] x.0 h.between = subst (λ l. p.Spells n l x.0 h.between) (left-nil h.first h.second h.whole) h.left in
        let right : (q x.0).Spells h.between [] x.1 m = subst (λ l. (q x.0).Spells h.between l x.1 m) (right-nil h.first h.second h.whole) h.right in
        (rq x.0).empty h.between x.1 m right ∙ rp.empty n x.0 h.between left;
    nil = λ n. inl (rp.nil n);
    keeps = λ n us x m h. (rq x.0).keeps h.between h.second x.1 m h.right ∙ rp.keeps n h.first x.0 h.between h.left;
    closed = λ n us vs h. elim h [
      | inl w ↦ inl (rp.closed n us vs w)
      | inr w ↦ turn-closed-at n us vs w.first w.second w.value w.between w.left w.right (split us vs w.first w.second w.whole)
    ];
  }

-- ---- either of two parts

pub record Parts {A : Type 0} (p q : Part A) (sp gp sq gq starts goes_on : Test) : Type 0 where
  pub solid : Solid p
  pub apart : (n : State) (t : Lexeme) → sq n t ≡ true → sp n t ≡ false
  pub ends_left : (m : State) (t : Lexeme) → goes_on m t ≡ false → gp m t ≡ false
  pub ends_right : (m : State) (t : Lexeme) → goes_on m t ≡ false → gq m t ≡ false
  pub ends_short : (n : State) (x : A) (m : State) (t : Lexeme) → q.Spells n [] x m → goes_on m t ≡ false → sp m t ≡ false
  pub opens_left : (n : State) (t : Lexeme) → sp n t ≡ true → starts n t ≡ true
  pub opens_right : (n : State) (t : Lexeme) → sq n t ≡ true → starts n t ≡ true

module _ {A : Type 0} {p q : Part A} {sp gp sq gq starts goes_on : Test} {r s : Reader A}
    (rp : Reads p sp gp r) (rq : Reads q sq gq s) (j : Parts p q sp gp sq gq starts goes_on) where
  or-sound : (n : State) (ts : List Lexeme) (b : Bool) (x y : Answer A) → Sound p n ts x → Sound q n ts y → Sound (p ⊔ q) n ts (cond b x y)
  or-sound n ts true (Took x rest m) y h k = record { taken = h.taken; whole = h.whole; spells = inl h.spells }
  or-sound n ts true (Refused why rest) y h k = tt
  or-sound n ts false x (Took y rest m) h k = record { taken = k.taken; whole = k.whole; spells = inr k.spells }
  or-sound n ts false x (Refused why rest) h k = tt

  or-reached : (n : State) (ts : List Lexeme) (b : Bool) (x y : Answer A) → Reached p n ts (left_of x) → Reached q n ts (left_of y)
      → Reached (p ⊔ q) n ts (left_of (cond b x y))
  or-reached n ts true x y h k = record { taken = h.taken; whole = h.whole; front = inl h.front }
  or-reached n ts false x y h k = record { taken = k.taken; whole = k.whole; front = inr k.front }

  or-opens : (n : State) (ts : List Lexeme) (b : Bool) (x y : Answer A) → Opens sp n ts x → Opens sq n ts y → Opens starts n ts (cond b x y)
  or-opens n ts true (Took x rest m) y h k = tt
  or-opens n ts true (Refused Syntax rest) y h k = tt
  or-opens n [] true (Refused Deep rest) y h k = h
  or-opens n (t ∷ ts) true (Refused Deep rest) y h k = λ e. j.opens_left n t (h e)
  or-opens n ts false x (Took y rest m) h k = tt
  or-opens n ts false x (Refused Syntax rest) h k = tt
  or-opens n [] false x (Refused Deep rest) h k = k
  or-opens n (t ∷ ts) false x (Refused Deep rest) h k = λ e. j.opens_right n t (k e)

  reached-or : (n : State) (ts : List Lexeme) → Reached (p ⊔ q) n ts (left_of (either sp r s n ts))
  reached-or n ts = or-reached n ts (ahead sp n ts) (r n ts) (s n ts) (rp.reached n ts) (rq.reached n ts)

  goes-left : (n : State) (t : Lexeme) (us : List Lexeme) → sp n t ≡ true → either sp r s n (t ∷ us) ≡ r n (t ∷ us)
  goes-left n t us e = ap (λ b. cond b (r n (t ∷ us)) (s n (t ∷ us))) e

  goes-right : (n : State) (us : List Lexeme) → ahead sp n us ≡ false → either sp r s n us ≡ s n us
  goes-right n us e = ap (λ b. cond b (r n us) (s n us)) e

  over-left : (m : State) (rest : List Lexeme) → ahead goes_on m rest ≡ false → ahead gp m rest ≡ false
  over-left m [] e = refl
  over-left m (t ∷ rest) e = j.ends_left m t e

  over-right : (m : State) (rest : List Lexeme) → ahead goes_on m rest ≡ false → ahead gq m rest ≡ false
  over-right m [] e = refl
  over-right m (t ∷ rest) e = j.ends_right m t e

  over-short : (n : State) (x : A) (m : State) (rest : List Lexeme) → q.Spells n [] x m → ahead goes_on m rest ≡ false → ahead sp n rest ≡ false
  over-short n x m [] h e = refl
  over-short n x m (t ∷ rest) h e = subst (λ l. sp l t ≡ false) (rq.empty n x m h) (j.ends_short n x m t h e)

  or-complete-left : (n : State) (us : List Lexeme) (x : A) (m : State) (rest : List Lexeme) → p.Spells n us x m → ahead goes_on m rest ≡ false
      → either sp r s n (us ++ rest) ≡ Took x rest m
  or-complete-left n [] x m rest h e = absurd (j.solid n x m h)
  or-complete-left n (t ∷ us) x m rest h e =
      goes-left n t (us ++ rest) (rp.begins n t us (rp.front n (t ∷ us) x m h)) ∙ rp.complete n (t ∷ us) x m rest h (over-left m rest e)

  or-complete-right : (n : State) (us : List Lexeme) (x : A) (m : State) (rest : List Lexeme) → q.Spells n us x m → ahead goes_on m rest ≡ false
      → either sp r s n (us ++ rest) ≡ Took x rest m
  or-complete-right n [] x m rest h e = goes-right n rest (over-short n x m rest h e) ∙ rq.complete n [] x m rest h (over-right m rest e)
  or-complete-right n (t ∷ us) x m rest h e =
      goes-right n (t ∷ (us ++ rest)) (j.apart n t (rq.begins n t us (rq.front n (t ∷ us) x m h))) ∙ rq.complete n (t ∷ us) x m rest h (over-right m rest e)

  or-far-left : (n : State) (us vs : List Lexeme) → p.Front n us → length (left_of (either sp r s n (us ++ vs))) ≤ length vs
  or-far-left n [] vs h = shrinks (reached-or n vs)
  or-far-left n (t ∷ us) vs h =
      subst (λ a. length (left_of a) ≤ length vs) (sym (goes-left n t (us ++ vs) (rp.begins n t us h))) (rp.no_further n (t ∷ us) vs h)

  or-far-right : (n : State) (us vs : List Lexeme) → q.Front n us → length (left_of (either sp r s n (us ++ vs))) ≤ length vs
  or-far-right n [] vs h = shrinks (reached-or n vs)
  or-far-right n (t ∷ us) vs h =
      subst (λ a. length (left_of a) ≤ length vs) (sym (goes-right n (t ∷ (us ++ vs)) (j.apart n t (rq.begins n t us h)))) (rq.no_further n (t ∷ us) vs h)

  pub choice : Reads (p ⊔ q) starts goes_on (either sp r s)
  choice = record {
    sound = λ n ts. or-sound n ts (ahead sp n ts) (r n ts) (s n ts) (rp.sound n ts) (rq.sound n ts);
    complete = λ n us x m rest h e. elim h [ inl w ↦ or-complete-left n us x m rest w e | inr w ↦ or-complete-right n us x m rest w e ];
    reached = reached-or;
    no_further = λ n us vs h. elim h [ inl w ↦ or-far-left n us vs w | inr w ↦ or-far-right n us vs w ];
    opens = λ n ts. or-opens n ts (ahead sp n ts) (r n ts) (s n ts) (rp.opens n ts) (rq.opens n ts);
    begins = λ n t us h. elim h [ inl w ↦ j.opens_left n t (rp.begins n t us w) | inr w ↦ j.opens_right n t (rq.begins n t us w) ];
    front = λ n us x m h. elim h [ inl w ↦ inl (rp.front n us x m w) | inr w ↦ inr (rq.front n us x m w) ];
    empty = λ n x m h. elim h [ inl w ↦ rp.empty n x m w | inr w ↦ rq.empty n x m w ];
    nil = λ n. inl (rp.nil n);
    keeps = λ n us x m h. elim h [ inl w ↦ rp.keeps n us x m w | inr w ↦ rq.keeps n us x m w ];
    closed = λ n us vs h. elim h [ inl w ↦ inl (rp.closed n us vs w) | inr w ↦ inr (rq.closed n us vs w) ];
  }

-- ---- a value and a state made of a part's, which is read from another state

pub record Shapes {A B : Type 0} (b : State → State) (f : State → A → State → B) (g : State → A → State → State) (p : Part A) (sp gp starts goes_on : Test) : Type 0 where
  -- what follows is read with the state that was made
  pub ends : (n : State) (x : A) (k : State) (t : Lexeme) → goes_on (g n x k) t ≡ false → gp k t ≡ false
  pub still : (n : State) (x : A) → p.Spells (b n) [] x (b n) → g n x (b n) ≡ n
  pub opens : (n : State) (t : Lexeme) → sp (b n) t ≡ true → starts n t ≡ true
  pub keeps : (n : State) (x : A) (k : State) → outer_scopes k.scopes ≡ outer_scopes (b n).scopes → outer_scopes (g n x k).scopes ≡ outer_scopes n.scopes

module _ {A B : Type 0} {b : State → State} {f : State → A → State → B} {g : State → A → State → State} {p : Part A} {sp gp starts goes_on : Test} {r : Reader A}
    (rp : Reads p sp gp r) (j : Shapes b f g p sp gp starts goes_on) where
  shaped-sound : (n : State) (ts : List Lexeme) (a : Answer A) → Sound p (b n) ts a → Sound (shaped b f g p) n ts (shape_of f g n a)
  shaped-sound n ts (Took x rest m) h = record { taken = h.taken; whole = h.whole; spells = record { value = x; after = m; made = refl; moved = refl; of = h.spells } }
  shaped-sound n ts (Refused why rest) h = tt

  same-left : (n : State) (a : Answer A) → left_of a ≡ left_of (shape_of f g n a)
  same-left n (Took x rest m) = refl
  same-left n (Refused why rest) = refl

  shaped-opens : (n : State) (ts : List Lexeme) (a : Answer A) → Opens sp (b n) ts a → Opens starts n ts (shape_of f g n a)
  shaped-opens n ts (Took x rest m) h = tt
  shaped-opens n ts (Refused Syntax rest) h = tt
  shaped-opens n [] (Refused Deep rest) h = h
  shaped-opens n (t ∷ ts) (Refused Deep rest) h = λ e. j.opens n t (h e)

  shaped-ends : (n : State) (x : A) (k : State) (rest : List Lexeme) → ahead goes_on (g n x k) rest ≡ false → ahead gp k rest ≡ false
  shaped-ends n x k [] e = refl
  shaped-ends n x k (t ∷ rest) e = j.ends n x k t e

  shaped-empty : (n : State) (y : B) (m : State) → (shaped b f g p).Spells n [] y m → m ≡ n
  shaped-empty n y m h =
      let same : h.after ≡ b n = rp.empty (b n) h.value h.after h.of in
      h.moved ∙ ap (λ k. g n h.value k) same ∙ j.still n h.value (subst (λ k. p.Spells (b n) [] h.value k) same h.of)

  pub shaping : Reads (shaped b f g p) starts goes_on (reshape b f g r)
  shaping = record {
    sound = λ n ts. shaped-sound n ts (r (b n) ts) (rp.sound (b n) ts);
    complete = λ n us y m rest h e.
        ap (λ a. shape_of f g n a) (rp.complete (b n) us h.value h.after rest h.of (shaped-ends n h.value h.after rest (subst (λ k. ahead goes_on k rest ≡ false) h.moved e)))
        ∙ ap (λ z. Took z rest (g n h.value h.after)) (sym h.made) ∙ ap (λ k. Took y rest k) (sym h.moved);
    reached = λ n ts. let w = rp.reached (b n) ts in record { taken = w.taken; whole = w.whole ∙ ap (λ l. w.taken ++ l) (same-left n (r (b n) ts)); front = w.front };
    no_further = λ n us vs h. subst (λ l. length l ≤ length vs) (same-left n (r (b n) (us ++ vs))) (rp.no_further (b n) us vs h);
    opens = λ n ts. shaped-opens n ts (r (b n) ts) (rp.opens (b n) ts);
    begins = λ n t us h. j.opens n t (rp.begins (b n) t us h);
    front = λ n us y m h. rp.front (b n) us h.value h.after h.of;
    empty = shaped-empty;
    nil = λ n. rp.nil (b n);
    keeps = λ n us y m h. ap (λ k. outer_scopes k.scopes) h.moved ∙ j.keeps n h.value h.after (rp.keeps (b n) us h.value h.after h.of);
    closed = λ n us vs h. rp.closed (b n) us vs h;
  }

-- ---- one token

pub record Tells {X : Type 0} (Is : State → Lexeme → X → Type 0) (starts : Test) (f : State → Lexeme → Option X) : Type 0 where
  pub yes : (n : State) (t : Lexeme) (x : X) → f n t ≡ Some x → Is n t x
  pub all : (n : State) (t : Lexeme) (x : X) → Is n t x → f n t ≡ Some x
  pub opens : (n : State) (t : Lexeme) (x : X) → Is n t x → starts n t ≡ true

module _ {X : Type 0} {Is : State → Lexeme → X → Type 0} {starts : Test} {f : State → Lexeme → Option X} (h : Tells Is starts f) where
  one-sound : (n : State) (t : Lexeme) (ts : List Lexeme) (o : Option X) → f n t ≡ o → Sound (one Is) n (t ∷ ts) (accept o t ts n)
  one-sound n t ts (Some x) e = record { taken = t ∷ []; whole = refl; spells = record { token = t; whole = refl; is = h.yes n t x e; moved = refl } }
  one-sound n t ts None e = tt

  one-sound-all : (n : State) (ts : List Lexeme) → Sound (one Is) n ts (take_one f n ts)
  one-sound-all n [] = tt
  one-sound-all n (t ∷ ts) = one-sound n t ts (f n t) refl

  one-reached-at : (n : State) (t : Lexeme) (ts : List Lexeme) (o : Option X) → f n t ≡ o → Reached (one Is) n (t ∷ ts) (left_of (accept o t ts n))
  one-reached-at n t ts (Some x) e = record { taken = t ∷ []; whole = refl; front = inr (record { token = t; value = x; whole = refl; is = h.yes n t x e }) }
  one-reached-at n t ts None e = record { taken = []; whole = refl; front = inl refl }

  one-reached : (n : State) (ts : List Lexeme) → Reached (one Is) n ts (left_of (take_one f n ts))
  one-reached n [] = record { taken = []; whole = refl; front = inl refl }
  one-reached n (t ∷ ts) = one-reached-at n t ts (f n t) refl

  one-opens-at : (n : State) (t : Lexeme) (ts : List Lexeme) (o : Option X) → Opens starts n (t ∷ ts) (accept o t ts n)
  one-opens-at n t ts (Some x) = tt
  one-opens-at n t ts None = tt

  one-opens : (n : State) (ts : List Lexeme) → Opens starts n ts (take_one f n ts)
  one-opens n [] = tt
  one-opens n (t ∷ ts) = one-opens-at n t ts (f n t)

  one-takes : (n : State) (us : List Lexeme) (t : Lexeme) (x : X) (vs : List Lexeme) → us ≡ t ∷ [] → Is n t x → take_one f n (us ++ vs) ≡ Took x vs (next n t)
  one-takes n us t x vs e i = ap (λ l. take_one f n (l ++ vs)) e ∙ ap (λ o. accept o t vs n) (h.all n t x i)

  one-closed : (n : State) (us vs : List Lexeme) → OneFront Is n (us ++ vs) → (one Is).Front n us
  one-closed n [] vs w = inl refl
  one-closed n (u ∷ us) vs w =
      let whole : u ∷ (us ++ vs) ≡ w.token ∷ [] = w.whole in
      let tail : [] ≡ us ++ vs = cc in
      let same : u ≡ w.token = cc in
      inr (record { token = w.token; value = w.value; whole = ap (λ l. u ∷ l) (left-nil us vs tail) ∙ ap (λ x. x ∷ []) same; is = w.is })

  pub single : Reads (one Is) starts (λ n t. false) (take_one f)
  single = record {
    sound = one-sound-all;
    complete = λ n us x m rest w e. one-takes n us w.token x rest w.whole w.is ∙ ap (λ k. Took x rest k) (sym w.moved);
    reached = one-reached;
    keeps = λ n us x m w. ap (λ k. outer_scopes k.scopes) w.moved;
    no_further = λ n us vs k. elim k [
      | inl e ↦ subst (λ l. length (left_of (take_one f n (l ++ vs))) ≤ length vs) (sym e) (shrinks (one-reached n vs))
      | inr w ↦ subst (λ a. length (left_of a) ≤ length vs) (sym (one-takes n us w.token w.value vs w.whole w.is)) (omega arith)
    ];
    opens = one-opens;
    begins = λ n t us k. elim k [
      | inl e ↦ cc
      | inr w ↦
          let same : t ≡ w.token = (let e : t ∷ us ≡ w.token ∷ [] = w.whole in cc) in
          subst (λ l. starts n l ≡ true) (sym same) (h.opens n w.token w.value w.is)
    ];
    front = λ n us x m w. inr (record { token = w.token; value = x; whole = w.whole; is = w.is });
    empty = λ n x m w. let e : [] ≡ w.token ∷ [] = w.whole in absurd cc;
    nil = λ n. inl refl;
    closed = λ n us vs k. elim k [ inl e ↦ inl (left-nil us vs (sym e)) | inr w ↦ one-closed n us vs w ];
  }

pub solid-one : {X : Type 0} {Is : State → Lexeme → X → Type 0} → Solid (one Is)
solid-one {X} {Is} n x m h = let e : [] ≡ h.token ∷ [] = h.whole in cc

-- ---- nothing, and what is never there

pub nothing-reads : {X : Type 0} (x : X) → Reads (nothing x) (λ n t. false) (λ n t. false) (pure x)
nothing-reads {X} x = record {
  sound = λ n ts. record { taken = []; whole = refl; spells = (refl, refl, refl) };
  complete = λ n us y m rest h e. ap (λ l. Took x (l ++ rest) n) h.0 ∙ ap (λ z. Took z rest n) (sym h.1) ∙ ap (λ k. Took y rest k) (sym h.2);
  reached = λ n ts. record { taken = []; whole = refl; front = refl };
  no_further = λ n us vs h. subst (λ l. length (l ++ vs) ≤ length vs) (sym h) (omega arith);
  opens = λ n ts. tt;
  begins = λ n t us h. cc;
  front = λ n us y m h. h.0;
  empty = λ n y m h. h.2;
  nil = λ n. refl;
  keeps = λ n us y m h. ap (λ k. outer_scopes k.scopes) h.2;
  closed = λ n us vs h. left-nil us vs (sym h);
}

never-opens : (X : Type 0) (starts : Test) (n : State) (ts : List Lexeme) (b : Bool) → ahead starts n ts ≡ b → Opens {X = X} starts n ts (Refused (cond b Deep Syntax) ts)
never-opens X starts n ts true h = λ e. h
never-opens X starts n ts false h = tt

pub never-reads : {X : Type 0} (starts : Test) → Reads (never {A = X}) starts (λ n t. false) (refuse (deep_if starts))
never-reads {X} starts = record {
  sound = λ n ts. tt;
  complete = λ n us y m rest h e. absurd h;
  reached = λ n ts. record { taken = []; whole = refl; front = refl };
  no_further = λ n us vs h. subst (λ l. length (l ++ vs) ≤ length vs) (sym h) (omega arith);
  opens = λ n ts. never-opens X starts n ts (ahead starts n ts) refl;
  begins = λ n t us h. let e : t ∷ us ≡ [] = h in cc;
  front = λ n us y m h. absurd h;
  empty = λ n y m h. absurd h;
  nil = λ n. refl;
  keeps = λ n us y m h. absurd h;
  closed = λ n us vs h. left-nil us vs (sym h);
}
