-- One part, or a part of it and more behind: both kept apart in the grammar, and read by one reader.
use Rattle.std.proofs.Common.{◌≡◌, ◌≤◌, Bool, true, false, cond, List, [], ◌∷◌, ◌++◌, ◌⊎◌, inl, inr, length, refl, sym, ap, ◌∙◌, subst, arith, append_assoc, append-nil}
use Rattle.std.specs.Prelude.{◌&&◌}
use Rattle.c_parts.specs.declared.lexeme.Lexeme.{Lexeme}
use Rattle.c_parts.specs.Scopes.{State, outer_scopes}
use Rattle.c_parts.specs.Part.{Part, made, ◌&>◌, ◌⊔◌}
use Rattle.c_parts.specs.Reading.{Syntax, Deep, Answer, Took, Refused, Reader, Test, left_of, and_then, pure, ahead, carried}
use Rattle.c_parts.proofs.Laws.{Taken, Sound, Reached, Opens, Reads, Solid, left-nil, shrinks, Within, Beyond, split, none-taken}

-- p, or q and then a, where each q is a p, and a value tells whether it is a q.
pub record Carries {A B : Type 0} (p q : Part A) (a : Part B) (lone : A → Bool) (gp ops ga goes_on : Test) : Type 0 where
  pub up : (n : State) (us : List Lexeme) (x : A) (m : State) → q.Spells n us x m → p.Spells n us x m
  pub lone_up : (n : State) (us : List Lexeme) (x : A) (m : State) → q.Spells n us x m → lone x ≡ true
  pub down : (n : State) (us : List Lexeme) (x : A) (m : State) → p.Spells n us x m → lone x ≡ true → q.Spells n us x m
  pub front_up : (n : State) (us : List Lexeme) → q.Front n us → p.Front n us
  pub apart : (k : State) (t : Lexeme) → ops k t ≡ true → gp k t ≡ false
  pub solid : Solid p
  pub solid_more : Solid a
  pub ends : (m : State) (t : Lexeme) → goes_on m t ≡ false → gp m t ≡ false
  pub ends_ops : (m : State) (t : Lexeme) → goes_on m t ≡ false → ops m t ≡ false
  pub ends_more : (m : State) (t : Lexeme) → goes_on m t ≡ false → ga m t ≡ false

and-out : (x y : Bool) → x && y ≡ true → (x ≡ true) × (y ≡ true)
and-out true y e = (refl, e)
and-out false y e = absurd (let f : false ≡ true = e in cc)

and-false : (x : Bool) → x && false ≡ false
and-false true = refl
and-false false = refl

module _ {A B : Type 0} {p q : Part A} {a : Part B} {lone : A → Bool} {sp gp ops ga goes_on : Test} {r : Reader A} {s : Reader B}
    (f : A × B → A) (rp : Reads p sp gp r) (ra : Reads a ops ga s) (j : Carries p q a lone gp ops ga goes_on) where
  abbrev whole_part : Part A
  whole_part = p ⊔ made f (q &> (λ z. a))

  abbrev more : A → State → List Lexeme → Answer A
  more x k after = and_then (s k after) (λ y. pure (f (x, y)))

  abbrev go : A → Reader A
  go x k after = cond (lone x && ahead ops k after) (more x k after) (Took x after k)

  carry-sound-more : (n : State) (ts : List Lexeme) (x : A) (after : List Lexeme) (k : State) (b : Answer B) → Taken p n ts x after k → lone x ≡ true → Sound a k after b
      → Sound whole_part n ts (and_then b (λ y. pure (f (x, y))))
  carry-sound-more n ts x after k (Took y rest m) tp e ta =
      record {
        taken = tp.taken ++ ta.taken;
        whole = tp.whole ∙ ap (λ l. tp.taken ++ l) ta.whole ∙ sym (append_assoc tp.taken ta.taken rest);
        spells = inr (record {
          value = (x, y);
          after = m;
          made = refl;
          moved = refl;
          of = record { first = tp.taken; second = ta.taken; between = k; whole = refl; left = j.down n tp.taken x k tp.spells e; right = ta.spells };
        });
      }
  carry-sound-more n ts x after k (Refused why rest) tp e ta = tt

  carry-sound-at : (n : State) (ts : List Lexeme) (x : A) (after : List Lexeme) (k : State) (b : Bool) → lone x && ahead ops k after ≡ b → Taken p n ts x after k
      → Sound whole_part n ts (cond b (more x k after) (Took x after k))
  carry-sound-at n ts x after k true e tp = carry-sound-more n ts x after k (s k after) tp (and-out (lone x) (ahead ops k after) e).0 (ra.sound k after)
  carry-sound-at n ts x after k false e tp = record { taken = tp.taken; whole = tp.whole; spells = inl tp.spells }

  carry-sound : (n : State) (ts : List Lexeme) (b : Answer A) → Sound p n ts b → Sound whole_part n ts (and_then b go)
  carry-sound n ts (Took x after k) h = carry-sound-at n ts x after k (lone x && ahead ops k after) refl h
  carry-sound n ts (Refused why rest) h = tt

  left-more : (x : A) (b : Answer B) → left_of {X = A} (and_then b (λ y. pure (f (x, y)))) ≡ left_of b
  left-more x (Took y rest m) = refl
  left-more x (Refused why rest) = refl

  carry-reached-more : (n : State) (ts : List Lexeme) (x : A) (after : List Lexeme) (k : State) (rest : List Lexeme) → Taken p n ts x after k → lone x ≡ true → Reached a k after rest
      → Reached whole_part n ts rest
  carry-reached-more n ts x after k rest tp e ta =
      record {
        taken = tp.taken ++ ta.taken;
        whole = tp.whole ∙ ap (λ l. tp.taken ++ l) ta.whole ∙ sym (append_assoc tp.taken ta.taken rest);
        front = inr (inr (record { first = tp.taken; second = ta.taken; value = x; between = k; whole = refl; left = j.down n tp.taken x k tp.spells e; right = ta.front }));
      }

  carry-reached-at : (n : State) (ts : List Lexeme) (x : A) (after : List Lexeme) (k : State) (b : Bool) → lone x && ahead ops k after ≡ b → Taken p n ts x after k → Reached p n ts after
      → Reached whole_part n ts (left_of (cond b (more x k after) (Took x after k)))
  carry-reached-at n ts x after k true e tp w =
      subst (λ l. Reached whole_part n ts l) (sym (left-more x (s k after)))
      (carry-reached-more n ts x after k (left_of (s k after)) tp (and-out (lone x) (ahead ops k after) e).0 (ra.reached k after))
  carry-reached-at n ts x after k false e tp w = record { taken = w.taken; whole = w.whole; front = inl w.front }

  carry-reached : (n : State) (ts : List Lexeme) (b : Answer A) → Sound p n ts b → Reached p n ts (left_of b) → Reached whole_part n ts (left_of (and_then b go))
  carry-reached n ts (Took x after k) h w = carry-reached-at n ts x after k (lone x && ahead ops k after) refl h w
  carry-reached n ts (Refused why rest) h w = record { taken = w.taken; whole = w.whole; front = inl w.front }

  carry-opens-more : (n : State) (ts : List Lexeme) (x : A) (after : List Lexeme) (k : State) (b : Answer B) → Taken p n ts x after k → Reached a k after (left_of b)
      → Opens sp n ts (and_then b (λ y. pure (f (x, y))))
  carry-opens-more n ts x after k (Took y rest m) tp ta = tt
  carry-opens-more n ts x after k (Refused Syntax rest) tp ta = tt
  carry-opens-more n ts x after k (Refused Deep rest) tp ta = λ e.
      let none : tp.taken ≡ [] = none-taken ts tp.taken after tp.whole (subst (λ l. length l ≤ length after) (sym e) (shrinks ta)) in
      absurd (j.solid n x k (subst (λ l. p.Spells n l x k) none tp.spells))

  carry-opens-at : (n : State) (ts : List Lexeme) (x : A) (after : List Lexeme) (k : State) (b : Bool) → Taken p n ts x after k
      → Opens sp n ts (cond b (more x k after) (Took x after k))
  carry-opens-at n ts x after k true tp = carry-opens-more n ts x after k (s k after) tp (ra.reached k after)
  carry-opens-at n ts x after k false tp = tt

  carry-opens : (n : State) (ts : List Lexeme) (b : Answer A) → Sound p n ts b → Opens sp n ts b → Opens sp n ts (and_then b go)
  carry-opens n ts (Took x after k) h o = carry-opens-at n ts x after k (lone x && ahead ops k after) h
  carry-opens n ts (Refused Syntax rest) h o = tt
  carry-opens n ts (Refused Deep rest) h o = o

  over-p : (m : State) (rest : List Lexeme) → ahead goes_on m rest ≡ false → ahead gp m rest ≡ false
  over-p m [] e = refl
  over-p m (t ∷ rest) e = j.ends m t e

  over-ops : (m : State) (rest : List Lexeme) → ahead goes_on m rest ≡ false → ahead ops m rest ≡ false
  over-ops m [] e = refl
  over-ops m (t ∷ rest) e = j.ends_ops m t e

  over-more : (m : State) (rest : List Lexeme) → ahead goes_on m rest ≡ false → ahead ga m rest ≡ false
  over-more m [] e = refl
  over-more m (t ∷ rest) e = j.ends_more m t e

  carry-complete-left : (n : State) (us : List Lexeme) (x : A) (m : State) (rest : List Lexeme) → p.Spells n us x m → ahead goes_on m rest ≡ false
      → carried lone ops r s f n (us ++ rest) ≡ Took x rest m
  carry-complete-left n us x m rest h e =
      ap (λ b. and_then b go) (rp.complete n us x m rest h (over-p m rest e))
      ∙ ap (λ b. cond (lone x && b) (more x m rest) (Took x rest m)) (over-ops m rest e)
      ∙ ap (λ b. cond b (more x m rest) (Took x rest m)) (and-false (lone x))

  -- a lone part and what goes on from it
  goes : (n : State) (us : List Lexeme) (x : A) (k : State) (t : Lexeme) (g rest : List Lexeme) → q.Spells n us x k → a.Front k (t ∷ g)
      → carried lone ops r s f n ((us ++ (t ∷ g)) ++ rest) ≡ more x k ((t ∷ g) ++ rest)
  goes n us x k t g rest h w =
      let op : ops k t ≡ true = ra.begins k t g w in
      ap (λ l. carried lone ops r s f n l) (append_assoc us (t ∷ g) rest)
      ∙ ap (λ b. and_then b go) (rp.complete n us x k ((t ∷ g) ++ rest) (j.up n us x k h) (j.apart k t op))
      ∙ ap (λ b. cond (b && ops k t) (more x k ((t ∷ g) ++ rest)) (Took x ((t ∷ g) ++ rest) k)) (j.lone_up n us x k h)
      ∙ ap (λ b. cond b (more x k ((t ∷ g) ++ rest)) (Took x ((t ∷ g) ++ rest) k)) op

  carry-complete-right : (n : State) (us g : List Lexeme) (x : A) (k : State) (y : B) (m : State) (rest : List Lexeme) → q.Spells n us x k → a.Spells k g y m → ahead goes_on m rest ≡ false
      → carried lone ops r s f n ((us ++ g) ++ rest) ≡ Took (f (x, y)) rest m
  carry-complete-right n us [] x k y m rest h w e = absurd (j.solid_more k y m w)
  carry-complete-right n us (t ∷ g) x k y m rest h w e =
      goes n us x k t g rest h (ra.front k (t ∷ g) y m w) ∙ ap (λ b. and_then b (λ y. pure (f (x, y)))) (ra.complete k (t ∷ g) y m rest w (over-more m rest e))

  shrinks-at : (x : A) (after : List Lexeme) (k : State) (b : Bool) → length (left_of (cond b (more x k after) (Took x after k))) ≤ length after
  shrinks-at x after k true = subst (λ l. length l ≤ length after) (sym (left-more x (s k after))) (shrinks (ra.reached k after))
  shrinks-at x after k false = omega arith

  go-shrinks : (b : Answer A) → length (left_of (and_then b go)) ≤ length (left_of b)
  go-shrinks (Took x after k) = shrinks-at x after k (lone x && ahead ops k after)
  go-shrinks (Refused why rest) = omega arith

  carry-short : (n : State) (us vs : List Lexeme) → p.Front n us → length (left_of (carried lone ops r s f n (us ++ vs))) ≤ length vs
  carry-short n us vs h = omega (arith, rp.no_further n us vs h, go-shrinks (r n (us ++ vs)))

  carry-far : (n : State) (us vs u g : List Lexeme) (x : A) (k : State) → us ≡ u ++ g → q.Spells n u x k → a.Front k g → length (left_of (carried lone ops r s f n (us ++ vs))) ≤ length vs
  carry-far n us vs u [] x k e h w = carry-short n us vs (subst (λ l. p.Front n l) (sym (e ∙ append-nil u)) (rp.front n u x k (j.up n u x k h)))
  carry-far n us vs u (t ∷ g) x k e h w =
      let same : left_of (carried lone ops r s f n (us ++ vs)) ≡ left_of (s k ((t ∷ g) ++ vs)) =
      ap (λ l. left_of (carried lone ops r s f n (l ++ vs))) e ∙ ap left_of (goes n u x k t g vs h w) ∙ left-more x (s k ((t ∷ g) ++ vs)) in
      subst (λ l. length l ≤ length vs) (sym same) (ra.no_further k (t ∷ g) vs w)

  carry-begins : (n : State) (t : Lexeme) (us u g : List Lexeme) (x : A) (k : State) → t ∷ us ≡ u ++ g → p.Spells n u x k → sp n t ≡ true
  carry-begins n t us [] g x k e h = absurd (j.solid n x k h)
  carry-begins n t us (v ∷ u) g x k e h = let same : t ≡ v = cc in subst (λ l. sp n l ≡ true) (sym same) (rp.begins n v u (rp.front n (v ∷ u) x k h))

  carry-closed-at : (n : State) (us vs u g : List Lexeme) (x : A) (k : State) → q.Spells n u x k → a.Front k g → Within us u ⊎ Beyond us vs u g → whole_part.Front n us
  carry-closed-at n us vs u g x k h w z = elim z [
    | inl y ↦ inl (rp.closed n us y.more (subst (λ l. p.Front n l) y.whole (rp.front n u x k (j.up n u x k h))))
    | inr y ↦ inr (inr (record { first = u; second = y.more; value = x; between = k; whole = y.whole; left = h; right = ra.closed k y.more vs (subst (λ l. a.Front k l) y.rest w) }))
  ]

  pub carrying : Reads (p ⊔ made f (q &> (λ z. a))) sp goes_on (carried lone ops r s f)
  carrying = record {
    sound = λ n ts. carry-sound n ts (r n ts) (rp.sound n ts);
    complete = λ n us x m rest h e. elim h [
      | inl w ↦ carry-complete-left n us x m rest w e
      | inr w ↦
          ap (λ l. carried lone ops r s f n (l ++ rest)) w.of.whole
          ∙ carry-complete-right n w.of.first w.of.second w.value.0 w.of.between w.value.1 w.after rest w.of.left w.of.right (subst (λ k. ahead goes_on k rest ≡ false) w.moved e)
          ∙ ap (λ z. Took z rest w.after) (sym w.made) ∙ ap (λ k. Took x rest k) (sym w.moved)
    ];
    reached = λ n ts. carry-reached n ts (r n ts) (rp.sound n ts) (rp.reached n ts);
    no_further = λ n us vs h. elim h [
      | inl w ↦ carry-short n us vs w
      | inr w ↦ elim w [ inl v ↦ carry-short n us vs (j.front_up n us v) | inr v ↦ carry-far n us vs v.first v.second v.value v.between v.whole v.left v.right ]
    ];
    opens = λ n ts. carry-opens n ts (r n ts) (rp.sound n ts) (rp.opens n ts);
    begins = λ n t us h. elim h [
      | inl w ↦ rp.begins n t us w
      | inr w ↦ elim w [
        | inl v ↦ rp.begins n t us (j.front_up n (t ∷ us) v)
        | inr v ↦ carry-begins n t us v.first v.second v.value v.between v.whole (j.up n v.first v.value v.between v.left)
      ]
    ];
    front = λ n us x m h. elim h [
      | inl w ↦ inl (rp.front n us x m w)
      | inr w ↦ inr (inr (record {
        first = w.of.first;
        second = w.of.second;
        value = w.value.0;
        between = w.of.between;
        whole = w.of.whole;
        left = w.of.left;
        right = ra.front w.of.between w.of.second w.value.1 w.after w.of.right;
      }))
    ];
    empty = λ n x m h. elim h [
      | inl w ↦ rp.empty n x m w
      | inr w ↦ absurd (j.solid n w.value.0 w.of.between (j.up n [] w.value.0 w.of.between
          (subst (λ l. q.Spells n l w.value.0 w.of.between) (left-nil w.of.first w.of.second w.of.whole) w.of.left)))
    ];
    nil = λ n. inl (rp.nil n);
    keeps = λ n us x m h. elim h [
      | inl w ↦ rp.keeps n us x m w
      | inr w ↦ ap (λ k. outer_scopes k.scopes) w.moved ∙ ra.keeps w.of.between w.of.second w.value.1 w.after w.of.right
          ∙ rp.keeps n w.of.first w.value.0 w.of.between (j.up n w.of.first w.value.0 w.of.between w.of.left)
    ];
    closed = λ n us vs h. elim h [
      | inl w ↦ inl (rp.closed n us vs w)
      | inr w ↦ elim w [
        | inl v ↦ inl (rp.closed n us vs (j.front_up n (us ++ vs) v))
        | inr v ↦ carry-closed-at n us vs v.first v.second v.value v.between v.left v.right (split us vs v.first v.second v.whole)
      ]
    ];
  }
