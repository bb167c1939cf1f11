-- What an answer at one level says of the grammar with no bound on nesting.
use Rattle.std.proofs.Common.{◌≡◌, ℕ, zero, suc, ◌+◌, ◌≤◌, ◌<◌, true, false, List, [], ◌∷◌, ◌++◌, ◌⊎◌, inl, inr, length, refl, sym, ap, ◌∙◌, subst, arith, append-nil, append_assoc, length-append}
use Rattle.std.specs.Prelude.{◌&&◌}
use Rattle.c_parts.specs.declared.lexeme.Lexeme.{Lexeme}
use Rattle.c_parts.specs.Scopes.{State}
use Rattle.c_parts.specs.Part.{Part}
use Rattle.c_parts.specs.Reading.{Reader, Test, Answer, Took, Refused, Syntax, Deep, left_of}
use Rattle.c_parts.proofs.Laws.{Reads, Sound, Taken, Within, Beyond, split, stopped}
use Rattle.c_parts.proofs.Agree.{Agree, Agrees, is_deep}

-- at least two more
abbrev pub above : ℕ → ℕ → ℕ
above zero k = suc (suc k)
above (suc d) k = suc (above d k)

pub above-is : (d k : ℕ) → above d k ≡ suc (suc (d + k))
above-is zero k = omega arith
above-is (suc d) k = let e : above d k ≡ suc (suc (d + k)) = above-is d k in omega (arith, e)

above-swap : (d k : ℕ) → above d k ≡ above k d
above-swap d k = let a = above-is d k in let b = above-is k d in omega (arith, a, b)

nil-length : (ts : List Lexeme) → length ts ≤ 0 → ts ≡ []
nil-length [] h = refl
nil-length (t ∷ ts) h = absurd (omega (arith, h))

-- Where there is no front past what is left, at any level, nothing is left to hope for.
pub record Past {X : Type 0} (p : Part X) (n : State) (ts rest : List Lexeme) : Type 0 where
  pub taken : List Lexeme
  pub more : List Lexeme
  pub whole : ts ≡ taken ++ more
  pub front : p.Front n taken
  pub past : length more < length rest

-- A family of parts and readers by levels, of which any two that are two apart agree.
module _ {X : Type 0} {starts goes_on : Test} (p : ℕ → Part X) (r : ℕ → Reader X) (reads : (d : ℕ) → Reads (p d) starts goes_on (r d))
    (agrees : (d k : ℕ) → Agrees true (r d) (r (above d k))) where
  not-deep : (a b : Answer X) (rest : List Lexeme) → a ≡ Refused Syntax rest → Agree true a b → b ≡ Refused Syntax rest
  not-deep a b rest e h = elim h [ inl s ↦ sym s.1 ∙ e | inr d ↦ absurd (let f : false ≡ true = sym (ap is_deep e) ∙ ap is_deep d.deep in cc) ]

  not-deep-took : (a b : Answer X) (x : X) (rest : List Lexeme) (m : State) → a ≡ Took x rest m → Agree true a b → b ≡ Took x rest m
  not-deep-took a b x rest m e h = elim h [ inl s ↦ sym s.1 ∙ e | inr d ↦ absurd (let f : false ≡ true = sym (ap is_deep e) ∙ ap is_deep d.deep in cc) ]

  -- Where nothing is left at the lower level, the higher one answers the same.
  all-taken : (a b : Answer X) → length (left_of a) ≤ 0 → Agree true a b → a ≡ b
  all-taken a b l h = elim h [ inl s ↦ s.1 | inr d ↦ absurd (let k : length (left_of a) ≡ suc (length d.rest) = ap (λ a. length (left_of a)) d.deep in omega (arith, k, l)) ]

  -- A front at one level is a front at each that is two higher.
  pub front-grows : (d k : ℕ) (n : State) (us : List Lexeme) → (p d).Front n us → (p (above d k)).Front n us
  front-grows d k n us h =
      let near : length (left_of (r d n (us ++ []))) ≤ 0 = (reads d).no_further n us [] h in
      let same : r d n us ≡ r (above d k) n us = all-taken (r d n us) (r (above d k) n us) (subst (λ l. length (left_of (r d n l)) ≤ 0) (append-nil us) near) ((agrees d k).agree n us) in
      let w = (reads (above d k)).reached n us in
      let none : left_of (r (above d k) n us) ≡ [] =
      nil-length (left_of (r (above d k) n us)) (subst (λ a. length (left_of a) ≤ 0) same (subst (λ l. length (left_of (r d n l)) ≤ 0) (append-nil us) near)) in
      subst (λ l. (p (above d k)).Front n l) (sym (w.whole ∙ ap (λ l. w.taken ++ l) none ∙ append-nil w.taken)) w.front

  spells-from : (q : Part X) (n : State) (us : List Lexeme) (x : X) (m : State) → Taken q n us x [] m → q.Spells n us x m
  spells-from q n us x m h = subst (λ l. q.Spells n l x m) (sym (h.whole ∙ append-nil h.taken)) h.spells

  pub spells-grows : (d k : ℕ) (n : State) (us : List Lexeme) (x : X) (m : State) → (p d).Spells n us x m → (p (above d k)).Spells n us x m
  spells-grows d k n us x m h =
      let took : r d n us ≡ Took x [] m = subst (λ l. r d n l ≡ Took x [] m) (append-nil us) ((reads d).complete n us x m [] h refl) in
      let same : r d n us ≡ r (above d k) n us = all-taken (r d n us) (r (above d k) n us) (subst (λ a. length (left_of a) ≤ 0) (sym took) (omega arith)) ((agrees d k).agree n us) in
      spells-from (p (above d k)) n us x m (subst (λ a. Sound (p (above d k)) n us a) (sym same ∙ took) ((reads (above d k)).sound n us))

  took-one : (a : Answer X) (x y : X) (m k : State) → a ≡ Took x [] m → a ≡ Took y [] k → (x ≡ y) × (m ≡ k)
  took-one a x y m k e f = let g : Took x [] m ≡ Took y [] k = sym e ∙ f in (cc, cc)

  -- A list has one tree at all levels, and one state behind it.
  pub one-tree : (d e : ℕ) (n : State) (us : List Lexeme) (x y : X) (m k : State) → (p d).Spells n us x m → (p e).Spells n us y k → (x ≡ y) × (m ≡ k)
  one-tree d e n us x y m k h w =
      let left : (p (above d e)).Spells n us x m = spells-grows d e n us x m h in
      let right : (p (above d e)).Spells n us y k = subst (λ l. (p l).Spells n us y k) (above-swap e d) (spells-grows e d n us y k w) in
      took-one (r (above d e) n (us ++ [])) x y m k ((reads (above d e)).complete n us x m [] left refl) ((reads (above d e)).complete n us y k [] right refl)

  -- Syntax: at no level does a front of the input go further.
  pub syntax-everywhere : (d : ℕ) (n : State) (ts rest : List Lexeme) → r d n ts ≡ Refused Syntax rest → (e : ℕ) (us vs : List Lexeme) → ts ≡ us ++ vs → (p e).Front n us
      → length rest ≤ length vs
  syntax-everywhere d n ts rest e k us vs whole h =
      let high : r (above d k) n ts ≡ Refused Syntax rest = not-deep (r d n ts) (r (above d k) n ts) rest e ((agrees d k).agree n ts) in
      let grown : (p (above d k)).Front n us = subst (λ l. (p l).Front n us) (above-swap k d) (front-grows k d n us h) in
      let near : length (left_of (r (above d k) n (us ++ vs))) ≤ length vs = (reads (above d k)).no_further n us vs grown in
      subst (λ a. length (left_of a) ≤ length vs) high (subst (λ l. length (left_of (r (above d k) n l)) ≤ length vs) (sym whole) near)

  -- so no tree is spelled at any level
  pub syntax-no-tree : (d : ℕ) (n : State) (ts : List Lexeme) (t : Lexeme) (rest : List Lexeme) → r d n ts ≡ Refused Syntax (t ∷ rest) → (e : ℕ) (x : X) (m : State) → (p e).Spells n ts x m → ⊥
  syntax-no-tree d n ts t rest e k x m h =
      let l : length (t ∷ rest) ≤ 0 = syntax-everywhere d n ts (t ∷ rest) e k ts [] (sym (append-nil ts)) ((reads k).front n ts x m h) in
      omega (arith, l)

  -- nor where nothing is left
  pub syntax-none : (d : ℕ) (n : State) (ts rest : List Lexeme) → r d n ts ≡ Refused Syntax rest → (e : ℕ) (x : X) (m : State) → (p e).Spells n ts x m → ⊥
  syntax-none d n ts rest e k x m h =
      let high : r (above d k) n ts ≡ Refused Syntax rest = not-deep (r d n ts) (r (above d k) n ts) rest e ((agrees d k).agree n ts) in
      let grown : (p (above d k)).Spells n ts x m = subst (λ l. (p l).Spells n ts x m) (above-swap k d) (spells-grows k d n ts x m h) in
      let took : r (above d k) n ts ≡ Took x [] m = subst (λ l. r (above d k) n l ≡ Took x [] m) (append-nil ts) ((reads (above d k)).complete n ts x m [] grown refl) in
      let f : Took x [] m ≡ Refused Syntax rest = sym took ∙ high in cc

  -- Where a value was taken, no front at any level goes on with the next token.
  pub taken-stops : (d : ℕ) (n : State) (us rest : List Lexeme) (t : Lexeme) (x : X) (m : State) → r d n (us ++ (t ∷ rest)) ≡ Took x (t ∷ rest) m → (e : ℕ) → (p e).Front n (us ++ (t ∷ [])) → ⊥
  taken-stops d n us rest t x m e k h =
      let high : r (above d k) n (us ++ (t ∷ rest)) ≡ Took x (t ∷ rest) m = not-deep-took (r d n (us ++ (t ∷ rest))) (r (above d k) n (us ++ (t ∷ rest))) x (t ∷ rest) m e ((agrees d k).agree n (us ++ (t ∷ rest))) in
      let grown : (p (above d k)).Front n (us ++ (t ∷ [])) = subst (λ l. (p l).Front n (us ++ (t ∷ []))) (above-swap k d) (front-grows k d n (us ++ (t ∷ [])) h) in
      stopped (reads (above d k)) n us x (t ∷ rest) m high grown

  goes-past : (a b : Answer X) (rest : List Lexeme) → a ≡ Refused Deep rest → Agree true a b → length (left_of b) < length rest
  goes-past a b rest e h = elim h [
    | inl s ↦ absurd (let f : true ≡ false = ap (λ a. is_deep a && true) (sym e) ∙ s.0 in cc)
    | inr d ↦ let same : length rest ≡ suc (length d.rest) = ap (λ a. length (left_of a)) (sym e ∙ d.deep) in omega (arith, same, d.further)
  ]

  -- Deep: some level has a front that goes on past the token that this one refuses, and this one hasn't.
  pub deep-somewhere : (d : ℕ) (n : State) (ts rest : List Lexeme) → r d n ts ≡ Refused Deep rest → Past (p (above d 0)) n ts rest
  deep-somewhere d n ts rest e =
      let w = (reads (above d 0)).reached n ts in
      record { taken = w.taken; more = left_of (r (above d 0) n ts); whole = w.whole; front = w.front; past = goes-past (r d n ts) (r (above d 0) n ts) rest e ((agrees d 0).agree n ts) }

  pub deep-not-here : (d : ℕ) (n : State) (ts rest : List Lexeme) → r d n ts ≡ Refused Deep rest → (us vs : List Lexeme) → ts ≡ us ++ vs → (p d).Front n us → length rest ≤ length vs
  deep-not-here d n ts rest e us vs whole h =
      subst (λ a. length (left_of a) ≤ length vs) e (subst (λ l. length (left_of (r d n l)) ≤ length vs) (sym whole) ((reads d).no_further n us vs h))

  -- Both exactly, where `us` are the tokens before the one that is refused.
  pub syntax-exact : (d : ℕ) (n : State) (us rest : List Lexeme) (t : Lexeme) → r d n (us ++ (t ∷ rest)) ≡ Refused Syntax (t ∷ rest) → (e : ℕ) → (p e).Front n (us ++ (t ∷ [])) → ⊥
  syntax-exact d n us rest t e k h =
      let l : length (t ∷ rest) ≤ length rest = syntax-everywhere d n (us ++ (t ∷ rest)) (t ∷ rest) e k (us ++ (t ∷ [])) rest (sym (append_assoc us (t ∷ []) rest)) h in
      omega (arith, l)

  deep-exact-at : (q : Part X) (n : State) (us rest : List Lexeme) (w : List Lexeme) (more : List Lexeme) → ((us vs : List Lexeme) → q.Front n (us ++ vs) → q.Front n us) → q.Front n w
      → length more ≤ length rest → Within us w ⊎ Beyond us rest w more → q.Front n us
  deep-exact-at q n us rest w more closed h l z = elim z [
    | inl y ↦ closed us y.more (subst (λ l. q.Front n l) y.whole h)
    | inr y ↦
        let count : length more ≡ length y.more + length rest = ap length y.rest ∙ length-append y.more rest in
        let none : y.more ≡ [] = nil-length y.more (omega (arith, count, l)) in
        subst (λ l. q.Front n l) (sym (y.whole ∙ ap (λ l. w ++ l) none ∙ append-nil w)) h
  ]

  pub deep-exact : (d : ℕ) (n : State) (us rest : List Lexeme) (t : Lexeme) → r d n (us ++ (t ∷ rest)) ≡ Refused Deep (t ∷ rest) → (p (above d 0)).Front n (us ++ (t ∷ []))
  deep-exact d n us rest t e =
      let w = deep-somewhere d n (us ++ (t ∷ rest)) (t ∷ rest) e in
      let past : length w.more < length (t ∷ rest) = w.past in
      deep-exact-at (p (above d 0)) n (us ++ (t ∷ [])) rest w.taken w.more ((reads (above d 0)).closed n) w.front (omega (arith, past))
      (split (us ++ (t ∷ [])) rest w.taken w.more (append_assoc us (t ∷ []) rest ∙ w.whole))

  pub deep-not-at : (d : ℕ) (n : State) (us rest : List Lexeme) (t : Lexeme) → r d n (us ++ (t ∷ rest)) ≡ Refused Deep (t ∷ rest) → (p d).Front n (us ++ (t ∷ [])) → ⊥
  deep-not-at d n us rest t e h =
      let l : length (t ∷ rest) ≤ length rest = deep-not-here d n (us ++ (t ∷ rest)) (t ∷ rest) e (us ++ (t ∷ [])) rest (sym (append_assoc us (t ∷ []) rest)) h in
      omega (arith, l)
