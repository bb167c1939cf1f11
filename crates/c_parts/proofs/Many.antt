-- Any number of a part.
use Rattle.std.proofs.Common.{◌≡◌, ℕ, zero, suc, ◌+◌, ◌≤◌, Bool, true, false, cond, List, [], ◌∷◌, ◌++◌, inl, inr, length, refl, sym, ap, ◌∙◌, subst, arith, length-append, append_assoc, append-nil}
use Rattle.c_parts.specs.declared.lexeme.Lexeme.{Lexeme}
use Rattle.c_parts.specs.Scopes.{State, outer_scopes}
use Rattle.c_parts.specs.Part.{Part, ManySpells, ManyFront, many}
use Rattle.c_parts.specs.Reading.{Syntax, Deep, Answer, Took, Refused, Reader, Test, left_of, and_then, pure, ◌>>=◌, ahead, times, repeat}
use Rattle.c_parts.proofs.Far.{Hangs}
use Rattle.c_parts.proofs.Laws.{Taken, Sound, Reached, Opens, Reads, Solid, left-nil, shrinks, split}

-- ---- any number of a part

pub record Repeats {A : Type 0} (p : Part A) (sp gp goes_on : Test) : Type 0 where
  pub solid : Solid p
  pub apart : (k : State) (t : Lexeme) → sp k t ≡ true → gp k t ≡ false
  pub ends : (m : State) (t : Lexeme) → goes_on m t ≡ false → gp m t ≡ false
  pub ends_short : (m : State) (t : Lexeme) → goes_on m t ≡ false → sp m t ≡ false

module _ {A : Type 0} {p : Part A} {sp gp goes_on : Test} {r : Reader A} (rp : Reads p sp gp r) (j : Repeats p sp gp goes_on) where
  abbrev again : ℕ → A → Reader (List A)
  again k a = times sp r k >>= λ more. pure (a ∷ more)

  more-sound : (n : State) (ts : List Lexeme) (x : A) (after : List Lexeme) (k : State) (b : Answer (List A)) → Taken p n ts x after k → Sound (many p) k after b
      → Sound (many p) n ts (and_then b (λ more. pure (x ∷ more)))
  more-sound n ts x after k (Took xs rest m) tp tq =
      record {
        taken = tp.taken ++ tq.taken;
        whole = tp.whole ∙ ap (λ l. tp.taken ++ l) tq.whole ∙ sym (append_assoc tp.taken tq.taken rest);
        spells = record { first = tp.taken; second = tq.taken; between = k; whole = refl; left = tp.spells; right = tq.spells };
      }
  more-sound n ts x after k (Refused why rest) tp tq = tt

  next-sound : (c : ℕ) → ((n : State) (ts : List Lexeme) → Sound (many p) n ts (times sp r c n ts)) → (n : State) (ts : List Lexeme) (a : Answer A)
      → Sound p n ts a → Sound (many p) n ts (and_then a (again c))
  next-sound c ih n ts (Took x after k) h = more-sound n ts x after k (times sp r c k after) h (ih k after)
  next-sound c ih n ts (Refused why rest) h = tt

  many-sound : (c : ℕ) (n : State) (ts : List Lexeme) → Sound (many p) n ts (times sp r c n ts)
  many-sound zero n ts = record { taken = []; whole = refl; spells = (refl, refl) }
  many-sound (suc c) n ts =
      elim (ahead sp n ts) as (λ b. Sound (many p) n ts (cond b (and_then (r n ts) (again c)) (Took [] ts n))) [
        | true ↦ next-sound c (many-sound c) n ts (r n ts) (rp.sound n ts)
        | false ↦ record { taken = []; whole = refl; spells = (refl, refl) }
      ]

  -- a part before a front of many is one
  longer : (n : State) (f g : List Lexeme) (x : A) (k : State) → p.Spells n f x k → ManyFront p k g → ManyFront p n (f ++ g)
  longer n f g x k h w =
      record {
        first = f ++ w.first;
        second = w.second;
        values = x ∷ w.values;
        between = w.between;
        whole = ap (λ l. f ++ l) w.whole ∙ sym (append_assoc f w.first w.second);
        left = record { first = f; second = w.first; between = k; whole = refl; left = h; right = w.left };
        right = w.right;
      }

  begun : (n : State) (us : List Lexeme) → p.Front n us → ManyFront p n us
  begun n us h = record { first = []; second = us; values = []; between = n; whole = refl; left = (refl, refl); right = h }

  more-reached : (n : State) (ts : List Lexeme) (x : A) (after : List Lexeme) (k : State) (b : Answer (List A)) → Taken p n ts x after k → Reached (many p) k after (left_of b)
      → Reached (many p) n ts (left_of {X = List A} (and_then b (λ more. pure (x ∷ more))))
  more-reached n ts x after k (Took xs rest m) tp tq =
      record {
        taken = tp.taken ++ tq.taken;
        whole = tp.whole ∙ ap (λ l. tp.taken ++ l) tq.whole ∙ sym (append_assoc tp.taken tq.taken rest);
        front = longer n tp.taken tq.taken x k tp.spells tq.front;
      }
  more-reached n ts x after k (Refused why rest) tp tq =
      record {
        taken = tp.taken ++ tq.taken;
        whole = tp.whole ∙ ap (λ l. tp.taken ++ l) tq.whole ∙ sym (append_assoc tp.taken tq.taken rest);
        front = longer n tp.taken tq.taken x k tp.spells tq.front;
      }

  next-reached : (c : ℕ) → ((n : State) (ts : List Lexeme) → Reached (many p) n ts (left_of (times sp r c n ts))) → (n : State) (ts : List Lexeme) (a : Answer A)
      → Sound p n ts a → Reached p n ts (left_of a) → Reached (many p) n ts (left_of {X = List A} (and_then a (again c)))
  next-reached c ih n ts (Took x after k) h w = more-reached n ts x after k (times sp r c k after) h (ih k after)
  next-reached c ih n ts (Refused why rest) h w = record { taken = w.taken; whole = w.whole; front = begun n w.taken w.front }

  pub many-reached : (c : ℕ) (n : State) (ts : List Lexeme) → Reached (many p) n ts (left_of (times sp r c n ts))
  many-reached zero n ts = record { taken = []; whole = refl; front = begun n [] (rp.nil n) }
  many-reached (suc c) n ts =
      elim (ahead sp n ts) as (λ b. Reached (many p) n ts (left_of {X = List A} (cond b (and_then (r n ts) (again c)) (Took [] ts n)))) [
        | true ↦ next-reached c (many-reached c) n ts (r n ts) (rp.sound n ts) (rp.reached n ts)
        | false ↦ record { taken = []; whole = refl; front = begun n [] (rp.nil n) }
      ]

  opens-anyhow : (n : State) (ts : List Lexeme) (a : Answer (List A)) → ahead sp n ts ≡ true → Opens sp n ts a
  opens-anyhow n ts (Took x rest m) h = tt
  opens-anyhow n ts (Refused Syntax rest) h = tt
  opens-anyhow n ts (Refused Deep rest) h = λ e. h

  many-opens-at : (c : ℕ) (n : State) (ts : List Lexeme) (b : Bool) → ahead sp n ts ≡ b → Opens {X = List A} sp n ts (cond b (and_then (r n ts) (again c)) (Took [] ts n))
  many-opens-at c n ts true h = opens-anyhow n ts (and_then (r n ts) (again c)) h
  many-opens-at c n ts false h = tt

  many-opens : (c : ℕ) (n : State) (ts : List Lexeme) → Opens sp n ts (times sp r c n ts)
  many-opens zero n ts = tt
  many-opens (suc c) n ts = many-opens-at c n ts (ahead sp n ts) refl

  done : (m : State) (rest : List Lexeme) → ahead goes_on m rest ≡ false → ahead sp m rest ≡ false
  done m [] e = refl
  done m (t ∷ rest) e = j.ends_short m t e

  settled : (m : State) (rest : List Lexeme) → ahead goes_on m rest ≡ false → ahead gp m rest ≡ false
  settled m [] e = refl
  settled m (t ∷ rest) e = j.ends m t e

  enters : (c : ℕ) (n : State) (t : Lexeme) (us : List Lexeme) → sp n t ≡ true → times sp r (suc c) n (t ∷ us) ≡ and_then (r n (t ∷ us)) (again c)
  enters c n t us e = ap (λ b. cond b (and_then (r n (t ∷ us)) (again c)) (Took [] (t ∷ us) n)) e

  -- after a whole part, the rest of many
  step : (c : ℕ) (n : State) (f g rest : List Lexeme) (x : A) (k : State) → p.Spells n f x k → ahead gp k (g ++ rest) ≡ false
      → times sp r (suc c) n ((f ++ g) ++ rest) ≡ and_then (times sp r c k (g ++ rest)) (λ more. pure (x ∷ more))
  step c n [] g rest x k h e = absurd (j.solid n x k h)
  step c n (t ∷ f) g rest x k h e =
      enters c n t ((f ++ g) ++ rest) (rp.begins n t f (rp.front n (t ∷ f) x k h))
      ∙ ap (λ l. and_then (r n l) (again c)) (append_assoc (t ∷ f) g rest)
      ∙ ap (λ a. and_then a (again c)) (rp.complete n (t ∷ f) x k (g ++ rest) h e)

  first-begins : (n : State) (t : Lexeme) (us f g : List Lexeme) (x : A) (k : State) → t ∷ us ≡ f ++ g → p.Spells n f x k → sp n t ≡ true
  first-begins n t us [] g x k e h = absurd (j.solid n x k h)
  first-begins n t us (u ∷ f) g x k e h = let same : t ≡ u = cc in subst (λ l. sp n l ≡ true) (sym same) (rp.begins n u f (rp.front n (u ∷ f) x k h))

  many-begins : (n : State) (t : Lexeme) (us : List Lexeme) (xs : List A) (m : State) → ManySpells p n (t ∷ us) xs m → sp n t ≡ true
  many-begins n t us [] m h = let e : t ∷ us ≡ [] = h.0 in cc
  many-begins n t us (x ∷ xs) m h = first-begins n t us h.first h.second x h.between h.whole h.left

  many-empty : (n : State) (xs : List A) (m : State) → ManySpells p n [] xs m → m ≡ n
  many-empty n [] m h = h.1
  many-empty n (x ∷ xs) m h = absurd (j.solid n x h.between (subst (λ l. p.Spells n l x h.between) (left-nil h.first h.second h.whole) h.left))

  follows : (k : State) (g : List Lexeme) (xs : List A) (m : State) (rest : List Lexeme) → ManySpells p k g xs m → ahead goes_on m rest ≡ false → ahead gp k (g ++ rest) ≡ false
  follows k [] xs m rest h e = subst (λ l. ahead gp l rest ≡ false) (many-empty k xs m h) (settled m rest e)
  follows k (t ∷ g) xs m rest h e = j.apart k t (many-begins k t g xs m h)

  within : (n : State) (f g : List Lexeme) (x : A) (k : State) (c : ℕ) → p.Spells n f x k → length (f ++ g) ≤ suc c → length g ≤ c
  within n [] g x k c h l = absurd (j.solid n x k h)
  within n (t ∷ f) g x k c h l = let same : length (f ++ g) ≡ length f + length g = length-append f g in omega (arith, l, same)

  no-count : (n : State) (f g : List Lexeme) (x : A) (k : State) → p.Spells n f x k → length (f ++ g) ≤ 0 → ⊥
  no-count n [] g x k h l = j.solid n x k h
  no-count n (t ∷ f) g x k h l = omega (arith, l)

  many-complete : (c : ℕ) (n : State) (us : List Lexeme) (xs : List A) (m : State) (rest : List Lexeme) → length (us ++ rest) ≤ c → ManySpells p n us xs m
      → ahead goes_on m rest ≡ false → times sp r c n (us ++ rest) ≡ Took xs rest m
  many-complete zero n us [] m rest l h e = ap (λ v. Took [] (v ++ rest) n) h.0 ∙ ap (λ k. Took [] rest k) (sym h.1)
  many-complete (suc c) n us [] m rest l h e =
      ap (λ v. times sp r (suc c) n (v ++ rest)) h.0
      ∙ ap (λ b. cond b (and_then (r n rest) (again c)) (Took [] rest n)) (subst (λ k. ahead sp k rest ≡ false) h.1 (done m rest e))
      ∙ ap (λ k. Took [] rest k) (sym h.1)
  many-complete zero n us (x ∷ xs) m rest l h e =
      absurd (no-count n h.first (h.second ++ rest) x h.between h.left
      (subst (λ v. length v ≤ 0) (ap (λ v. v ++ rest) h.whole ∙ append_assoc h.first h.second rest) l))
  many-complete (suc c) n us (x ∷ xs) m rest l h e =
      ap (λ v. times sp r (suc c) n (v ++ rest)) h.whole
      ∙ step c n h.first h.second rest x h.between h.left (follows h.between h.second xs m rest h.right e)
      ∙ ap (λ b. and_then b (λ more. pure (x ∷ more)))
      (many-complete c h.between h.second xs m rest
      (within n h.first (h.second ++ rest) x h.between c h.left
      (subst (λ v. length v ≤ suc c) (ap (λ v. v ++ rest) h.whole ∙ append_assoc h.first h.second rest) l))
      h.right e)

  pub more-left : (x : A) (b : Answer (List A)) → left_of {X = List A} (and_then b (λ more. pure (x ∷ more))) ≡ left_of b
  more-left x (Took y rest m) = refl
  more-left x (Refused why rest) = refl

  pub again-shrinks : (c : ℕ) (a : Answer A) → length (left_of {X = List A} (and_then a (again c))) ≤ length (left_of a)
  again-shrinks c (Took x after k) = subst (λ l. length l ≤ length after) (sym (more-left x (times sp r c k after))) (shrinks (many-reached c k after))
  again-shrinks c (Refused why rest) = omega arith

  -- a front of one part
  far-one : (c : ℕ) (n : State) (us vs : List Lexeme) → length (us ++ vs) ≤ c → p.Front n us → length (left_of (times sp r c n (us ++ vs))) ≤ length vs
  far-one c n [] vs l h = shrinks (many-reached c n vs)
  far-one zero n (t ∷ us) vs l h = absurd (omega (arith, l))
  far-one (suc c) n (t ∷ us) vs l h =
      subst (λ a. length (left_of a) ≤ length vs) (sym (enters c n t (us ++ vs) (rp.begins n t us h)))
      (let near : length (left_of (r n ((t ∷ us) ++ vs))) ≤ length vs = rp.no_further n (t ∷ us) vs h in
      omega (arith, near, again-shrinks c (r n ((t ∷ us) ++ vs))))

  front-begins : (n : State) (t : Lexeme) (us f g : List Lexeme) (xs : List A) (k : State) → t ∷ us ≡ f ++ g → ManySpells p n f xs k → p.Front k g → sp n t ≡ true
  front-begins n t us [] g xs k e h w = rp.begins n t us (subst (λ v. v) (ap (λ v. p.Front v g) (many-empty n xs k h) ∙ ap (λ v. p.Front n v) (sym e)) w)
  front-begins n t us (u ∷ f) g xs k e h w = let same : t ≡ u = cc in subst (λ l. sp n l ≡ true) (sym same) (many-begins n u f xs k h)

  far-step : (c : ℕ) (n : State) (f g vs : List Lexeme) (x : A) (k : State) → length ((f ++ g) ++ vs) ≤ suc c → p.Spells n f x k → ManyFront p k g
      → (length (g ++ vs) ≤ c → length (left_of (times sp r c k (g ++ vs))) ≤ length vs)
      → length (left_of (times sp r (suc c) n ((f ++ g) ++ vs))) ≤ length vs
  far-step c n f [] vs x k l h w ih =
      far-one (suc c) n (f ++ []) vs l (subst (λ v. p.Front n v) (sym (append-nil f)) (rp.front n f x k h))
  far-step c n f (t ∷ g) vs x k l h w ih =
      let near : length (left_of (times sp r c k ((t ∷ g) ++ vs))) ≤ length vs =
      ih (within n f ((t ∷ g) ++ vs) x k c h (subst (λ v. length v ≤ suc c) (append_assoc f (t ∷ g) vs) l)) in
      let same : left_of (times sp r (suc c) n ((f ++ (t ∷ g)) ++ vs)) ≡ left_of (times sp r c k ((t ∷ g) ++ vs)) =
      ap left_of (step c n f (t ∷ g) vs x k h (j.apart k t (front-begins k t g w.first w.second w.values w.between w.whole w.left w.right)))
      ∙ more-left x (times sp r c k ((t ∷ g) ++ vs)) in
      subst (λ v. length v ≤ length vs) (sym same) near

  many-far : (c : ℕ) (n : State) (us vs f g : List Lexeme) (xs : List A) (k : State) → length (us ++ vs) ≤ c → us ≡ f ++ g → ManySpells p n f xs k → p.Front k g
      → length (left_of (times sp r c n (us ++ vs))) ≤ length vs
  many-far c n us vs f g [] k l e h w =
      far-one c n us vs l
      (subst (λ v. v) (ap (λ v. p.Front v g) h.1 ∙ ap (λ v. p.Front n v) (sym (e ∙ ap (λ v. v ++ g) h.0))) w)
  many-far zero n us vs f g (x ∷ xs) k l e h w =
      absurd (no-count n h.first ((h.second ++ g) ++ vs) x h.between h.left
      (subst (λ v. length v ≤ 0) (ap (λ v. v ++ vs) (e ∙ ap (λ v. v ++ g) h.whole ∙ append_assoc h.first h.second g) ∙ append_assoc h.first (h.second ++ g) vs) l))
  many-far (suc c) n us vs f g (x ∷ xs) k l e h w =
      let same : us ≡ h.first ++ (h.second ++ g) = e ∙ ap (λ v. v ++ g) h.whole ∙ append_assoc h.first h.second g in
      let front : ManyFront p h.between (h.second ++ g) = record { first = h.second; second = g; values = xs; between = k; whole = refl; left = h.right; right = w } in
      subst (λ v. length (left_of (times sp r (suc c) n (v ++ vs))) ≤ length vs) (sym same)
      (far-step c n h.first (h.second ++ g) vs x h.between (subst (λ v. length (v ++ vs) ≤ suc c) same l) h.left front
      (λ fits. many-far c h.between (h.second ++ g) vs h.second g xs k fits refl h.right w))

  many-closed : (n : State) (us vs f g : List Lexeme) (xs : List A) (k : State) → ManySpells p n f xs k → p.Front k g → us ++ vs ≡ f ++ g → ManyFront p n us
  many-closed n us vs f g [] k h w e =
      let same : us ++ vs ≡ g = e ∙ ap (λ l. l ++ g) h.0 in
      begun n us (rp.closed n us vs (subst (λ l. p.Front n l) (sym same) (subst (λ l. p.Front l g) h.1 w)))
  many-closed n us vs f g (x ∷ xs) k h w e =
      let whole : us ++ vs ≡ h.first ++ (h.second ++ g) = e ∙ ap (λ l. l ++ g) h.whole ∙ append_assoc h.first h.second g in
      elim (split us vs h.first (h.second ++ g) whole) [
        | inl y ↦ begun n us (rp.closed n us y.more (subst (λ l. p.Front n l) y.whole (rp.front n h.first x h.between h.left)))
        | inr y ↦ subst (λ l. ManyFront p n l) (sym y.whole)
            (longer n h.first y.more x h.between h.left (many-closed h.between y.more vs h.second g xs k h.right w (sym y.rest)))
      ]

  many-keeps : (n : State) (us : List Lexeme) (xs : List A) (m : State) → ManySpells p n us xs m → outer_scopes m.scopes ≡ outer_scopes n.scopes
  many-keeps n us [] m h = ap (λ k. outer_scopes k.scopes) h.1
  many-keeps n us (x ∷ xs) m h = many-keeps h.between h.second xs m h.right ∙ rp.keeps n h.first x h.between h.left

  pub repeating : Reads (many p) sp goes_on (repeat sp r)
  repeating = record {
    sound = λ n ts. many-sound (length ts) n ts;
    complete = λ n us xs m rest h e. many-complete (length (us ++ rest)) n us xs m rest (omega arith) h e;
    reached = λ n ts. many-reached (length ts) n ts;
    no_further = λ n us vs h. many-far (length (us ++ vs)) n us vs h.first h.second h.values h.between (omega arith) h.whole h.left h.right;
    opens = λ n ts. many-opens (length ts) n ts;
    begins = λ n t us h. front-begins n t us h.first h.second h.values h.between h.whole h.left h.right;
    front = λ n us xs m h. record { first = us; second = []; values = xs; between = m; whole = sym (append-nil us); left = h; right = rp.nil m };
    empty = many-empty;
    nil = λ n. begun n [] (rp.nil n);
    keeps = many-keeps;
    closed = λ n us vs h. many-closed n us vs h.first h.second h.values h.between h.left h.right h.whole;
  }

  -- the same where a hanging token follows
  module _ {hangs : Test} (hp : Hangs p hangs r) (still : (m : State) (t : Lexeme) → hangs m t ≡ true → sp m t ≡ false) where
    hang-first : (n : State) (f g : List Lexeme) (x : A) (k : State) (xs : List A) (m : State) (t : Lexeme) (rest : List Lexeme) → p.Spells n f x k → ManySpells p k g xs m → hangs m t ≡ true
        → (ManyFront p n ((f ++ g) ++ (t ∷ [])) → ⊥) → r n (f ++ (g ++ (t ∷ rest))) ≡ Took x (g ++ (t ∷ rest)) k
    hang-first n f [] x k xs m t rest h w e st =
        hp.maximal n f x k t rest h (subst (λ l. hangs l t ≡ true) (many-empty k xs m w) e)
        (λ v. st (begun n ((f ++ []) ++ (t ∷ [])) (subst (λ l. p.Front n (l ++ (t ∷ []))) (sym (append-nil f)) v)))
    hang-first n f (u ∷ g) x k xs m t rest h w e st = rp.complete n f x k (u ∷ (g ++ (t ∷ rest))) h (j.apart k u (many-begins k u g xs m w))

    hang-step : (c : ℕ) (n : State) (f g : List Lexeme) (x : A) (k : State) (after : List Lexeme) → p.Spells n f x k → r n (f ++ (g ++ after)) ≡ Took x (g ++ after) k
        → times sp r (suc c) n ((f ++ g) ++ after) ≡ and_then (times sp r c k (g ++ after)) (λ more. pure (x ∷ more))
    hang-step c n [] g x k after h e = absurd (j.solid n x k h)
    hang-step c n (v ∷ f) g x k after h e =
        enters c n v ((f ++ g) ++ after) (rp.begins n v f (rp.front n (v ∷ f) x k h))
        ∙ ap (λ l. and_then (r n l) (again c)) (append_assoc (v ∷ f) g after)
        ∙ ap (λ a. and_then a (again c)) e

    many-maximal : (c : ℕ) (n : State) (us : List Lexeme) (xs : List A) (m : State) (t : Lexeme) (rest : List Lexeme) → length (us ++ (t ∷ rest)) ≤ c → ManySpells p n us xs m → hangs m t ≡ true
        → (ManyFront p n (us ++ (t ∷ [])) → ⊥) → times sp r c n (us ++ (t ∷ rest)) ≡ Took xs (t ∷ rest) m
    many-maximal zero n us [] m t rest l h e st = ap (λ v. Took [] (v ++ (t ∷ rest)) n) h.0 ∙ ap (λ k. Took [] (t ∷ rest) k) (sym h.1)
    many-maximal (suc c) n us [] m t rest l h e st =
        ap (λ v. times sp r (suc c) n (v ++ (t ∷ rest))) h.0
        ∙ ap (λ b. cond b (and_then (r n (t ∷ rest)) (again c)) (Took [] (t ∷ rest) n)) (subst (λ k. sp k t ≡ false) h.1 (still m t e))
        ∙ ap (λ k. Took [] (t ∷ rest) k) (sym h.1)
    many-maximal zero n us (x ∷ xs) m t rest l h e st =
        absurd (no-count n h.first (h.second ++ (t ∷ rest)) x h.between h.left
        (subst (λ v. length v ≤ 0) (ap (λ v. v ++ (t ∷ rest)) h.whole ∙ append_assoc h.first h.second (t ∷ rest)) l))
    many-maximal (suc c) n us (x ∷ xs) m t rest l h e st =
        let st2 : ManyFront p n ((h.first ++ h.second) ++ (t ∷ [])) → ⊥ = subst (λ v. ManyFront p n (v ++ (t ∷ [])) → ⊥) h.whole st in
        ap (λ v. times sp r (suc c) n (v ++ (t ∷ rest))) h.whole
        ∙ hang-step c n h.first h.second x h.between (t ∷ rest) h.left (hang-first n h.first h.second x h.between xs m t rest h.left h.right e st2)
        ∙ ap (λ b. and_then b (λ more. pure (x ∷ more)))
        (many-maximal c h.between h.second xs m t rest
        (within n h.first (h.second ++ (t ∷ rest)) x h.between c h.left
        (subst (λ v. length v ≤ suc c) (ap (λ v. v ++ (t ∷ rest)) h.whole ∙ append_assoc h.first h.second (t ∷ rest)) l))
        h.right e
        (λ v. st2 (subst (λ l. ManyFront p n l) (sym (append_assoc h.first h.second (t ∷ []))) (longer n h.first (h.second ++ (t ∷ [])) x h.between h.left v))))

    pub many-hangs : Hangs (many p) hangs (repeat sp r)
    many-hangs = record { maximal = λ n us xs m t rest h e st. many-maximal (length (us ++ (t ∷ rest))) n us xs m t rest (omega arith) h e st }
