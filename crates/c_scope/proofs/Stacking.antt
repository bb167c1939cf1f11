-- A stack of declarations: what a push and a pop change, and what is found in it.
use Rattle.std.proofs.Common.{◌≡◌, ℕ, zero, suc, ◌-◌, ◌<◌, ◌≤◌, Bool, true, false, cond, List, [], ◌∷◌, ◌++◌, length, map, take, drop, reverse, Option, Some, None, refl, sym, ap, ◌∙◌, subst, arith, length-append, unwrap_or}
use Rattle.std.specs.Prelude.{slice_get}
use Rattle.std.specs.Option.{option_or}
use Rattle.std.specs.Str.{bytes_eq}
use Rattle.std.proofs.lemmas.List.{map-append, reverse-append, reverse-reverse, length-reverse, take-append-drop, take_all}
use Rattle.std.proofs.lemmas.Slice.Eq.{bytes_eq-Decides}
use Rattle.std.proofs.Math.ListN.{length-drop}
use Rattle.std.proofs.Math.Nat.{sub-zero}
use Rattle.std.proofs.Math.Seq.{take-length}
use Rattle.c_scope.specs.declared.blocks.Declaration.{Declaration}
use Rattle.c_scope.specs.Blocks.{declared_in, visible, innermost, outer_blocks, with_declaration, without_newest}
use Rattle.c_scope.specs.Stacks.{naming_of, newest_of, Remembers, StartWithin, blocks_of, IsIndexed, IsStack, Changes}
use Rattle.c_scope.proofs.Names.{same_name, names_differ}

-- ---- a push and a pop

module _ (known new : List ℕ → Option ℕ) (d : Declaration) (older : List Declaration) where
  newest-push : (name : List ℕ) (b : Bool) → bytes_eq name d.name.items ≡ b → IsIndexed known older → Changes known new d.name.items (Some (length older)) → new name ≡ newest_of name (d ∷ older)
  unfolding newest_of
  newest-push name true e ok changes =
      ap new (same_name name d.name.items e) ∙ changes.here ∙ sym (ap (λ b. cond b (Some (length older)) (newest_of name older)) e)
  newest-push name false e ok changes =
      changes.others name (λ s. names_differ name d.name.items e (sym s)) ∙ ok.newest name ∙ sym (ap (λ b. cond b (Some (length older)) (newest_of name older)) e)

  pub IsIndexed-push : IsIndexed known older → Changes known new d.name.items (Some (length older)) → d.hidden ≡ known d.name.items → IsIndexed new (d ∷ older)
  unfolding Remembers
  IsIndexed-push ok changes hidden = record {
    newest = λ name. newest-push name (bytes_eq name d.name.items) refl ok changes;
    remembers = (hidden ∙ ok.newest d.name.items, ok.remembers);
  }

  newest-pop : (name : List ℕ) (b : Bool) → bytes_eq name d.name.items ≡ b → IsIndexed known (d ∷ older) → Changes known new d.name.items d.hidden → new name ≡ newest_of name older
  unfolding newest_of Remembers
  newest-pop name true e ok changes =
      let same = same_name name d.name.items e in
      ap new same ∙ changes.here ∙ ok.remembers.0 ∙ ap (λ n. newest_of n older) (sym same)
  newest-pop name false e ok changes =
      changes.others name (λ s. names_differ name d.name.items e (sym s)) ∙ ok.newest name ∙ ap (λ b. cond b (Some (length older)) (newest_of name older)) e

  pub IsIndexed-pop : IsIndexed known (d ∷ older) → Changes known new d.name.items d.hidden → IsIndexed new older
  unfolding Remembers
  IsIndexed-pop ok changes = record {
    newest = λ name. newest-pop name (bytes_eq name d.name.items) refl ok changes;
    remembers = ok.remembers.1;
  }

-- ---- what is found

-- the declaration at this index is the newest of the name
pub record IsFound (name : List ℕ) (stack : List Declaration) (index : ℕ) (d : Declaration) : Type 0 where
  pub within : index < length stack
  pub there : slice_get (reverse stack) index ≡ Some d
  pub means : declared_in name (map naming_of stack) ≡ Some d.what

slice_get-before : {A : Type 0} (xs : List A) (y : A) (n : ℕ) → n < length xs → slice_get (xs ++ y ∷ []) n ≡ slice_get xs n
slice_get-before [] y n h = absurd (omega arith)
slice_get-before (x ∷ xs) y zero h = refl
slice_get-before (x ∷ xs) y (suc n) h = slice_get-before xs y n (omega arith)

slice_get-at : {A : Type 0} (xs : List A) (y : A) → slice_get (xs ++ y ∷ []) (length xs) ≡ Some y
slice_get-at [] y = refl
slice_get-at (x ∷ xs) y = slice_get-at xs y

reverse-cons : {A : Type 0} (x : A) (xs : List A) → reverse (x ∷ xs) ≡ reverse xs ++ x ∷ []
reverse-cons x xs = reverse-append (x ∷ []) xs

pub found_in : (name : List ℕ) (stack : List Declaration) (index : ℕ) → newest_of name stack ≡ Some index → (d : Declaration) × IsFound name stack index d
unfolding newest_of
found_in name [] index h = cc
found_in name (d ∷ older) index h = by (bytes_eq name d.name.items) refl (λ rest. found_in name older index rest)
  where
    by : (b : Bool) → bytes_eq name d.name.items ≡ b → (newest_of name older ≡ Some index → (e : Declaration) × IsFound name older index e) → (e : Declaration) × IsFound name (d ∷ older) index e
    by true e inner =
        let at : Some (length older) ≡ Some index = sym (ap (λ b. cond b (Some (length older)) (newest_of name older)) e) ∙ h in
        let here : length older ≡ index = cc in (
          d,
          record {
            within = omega arith;
            there = ap (λ (xs : List Declaration). slice_get xs index) (reverse-cons d older)
                ∙ ap (λ n. slice_get (reverse older ++ d ∷ []) n) (sym here ∙ sym (length-reverse older)) ∙ slice_get-at (reverse older) d;
            means = ap (λ b. cond b (Some d.what) (declared_in name (map naming_of older))) e;
          },
        )
    by false e inner =
        let rest = inner (sym (ap (λ b. cond b (Some (length older)) (newest_of name older)) e) ∙ h) in
        let found : IsFound name older index rest.0 = rest.1 in (
          rest.0,
          record {
            within = omega (arith, found.within);
            there = ap (λ (xs : List Declaration). slice_get xs index) (reverse-cons d older)
                ∙ slice_get-before (reverse older) d index (omega (arith, found.within, length-reverse older)) ∙ found.there;
            means = ap (λ b. cond b (Some d.what) (declared_in name (map naming_of older))) e ∙ found.means;
          },
        )

pub none_in : (name : List ℕ) (stack : List Declaration) → newest_of name stack ≡ None → declared_in name (map naming_of stack) ≡ None
unfolding newest_of
none_in name [] h = refl
none_in name (d ∷ older) h = by (bytes_eq name d.name.items) refl (λ rest. none_in name older rest)
  where
    by : (b : Bool) → bytes_eq name d.name.items ≡ b → (newest_of name older ≡ None → declared_in name (map naming_of older) ≡ None) → declared_in name (map naming_of (d ∷ older)) ≡ None
    by true e inner = let clash : Some (length older) ≡ None = sym (ap (λ b. cond b (Some (length older)) (newest_of name older)) e) ∙ h in cc
    by false e inner =
        ap (λ b. cond b (Some d.what) (declared_in name (map naming_of older))) e
        ∙ inner (sym (ap (λ b. cond b (Some (length older)) (newest_of name older)) e) ∙ h)

-- ---- blocks

declared-split : (name : List ℕ) (k : ℕ) (stack : List Declaration) → option_or (declared_in name (map naming_of (take k stack))) (declared_in name (map naming_of (drop k stack))) ≡ declared_in name (map naming_of stack)
declared-split name zero stack = refl
declared-split name (suc k) [] = refl
declared-split name (suc k) (d ∷ older) = by (bytes_eq name d.name.items) refl (declared-split name k older)
  where
    by : (b : Bool) → bytes_eq name d.name.items ≡ b → option_or (declared_in name (map naming_of (take k older))) (declared_in name (map naming_of (drop k older))) ≡ declared_in name (map naming_of older) → option_or (cond (bytes_eq name d.name.items) (Some d.what) (declared_in name (map naming_of (take k older)))) (declared_in name (map naming_of (drop k older))) ≡ declared_in name (map naming_of (d ∷ older))
    by true e inner = rw e refl
    by false e inner = rw e inner

or-none : {A : Type 0} (o : Option A) → option_or o None ≡ o
or-none None = refl
or-none (Some x) = refl

-- what is visible is what the whole stack has the name stand for
pub visible-blocks : (name : List ℕ) (starts : List ℕ) (stack : List Declaration) → visible name (blocks_of starts stack) ≡ declared_in name (map naming_of stack)
unfolding blocks_of
visible-blocks name [] stack = or-none (declared_in name (map naming_of stack))
visible-blocks name (start ∷ starts) stack =
    ap (λ o. option_or (declared_in name (map naming_of (take (length stack - start) stack))) o) (visible-blocks name starts (drop (length stack - start) stack))
    ∙ declared-split name (length stack - start) stack

-- a declaration of the innermost block isn't below where that block begins
pub declared-here : (name : List ℕ) (stack : List Declaration) (start index : ℕ) → start ≤ length stack → newest_of name stack ≡ Some index → start ≤ index → declared_in name (map naming_of (take (length stack - start) stack)) ≡ declared_in name (map naming_of stack)
unfolding newest_of
declared-here name [] start index s h i = cc
declared-here name (d ∷ older) start index s h i = by (bytes_eq name d.name.items) refl (λ less rest. declared-here name older start index less rest i)
  where
    by : (b : Bool) → bytes_eq name d.name.items ≡ b → (start ≤ length older → newest_of name older ≡ Some index → declared_in name (map naming_of (take (length older - start) older)) ≡ declared_in name (map naming_of older)) → declared_in name (map naming_of (take (suc (length older) - start) (d ∷ older))) ≡ declared_in name (map naming_of (d ∷ older))
    by true e inner =
        let at : Some (length older) ≡ Some index = sym (ap (λ b. cond b (Some (length older)) (newest_of name older)) e) ∙ h in
        let here : length older ≡ index = cc in
        let more : suc (length older) - start ≡ suc (length older - start) = omega arith in
        rw (more, e) refl
    by false e inner =
        let rest : newest_of name older ≡ Some index = sym (ap (λ b. cond b (Some (length older)) (newest_of name older)) e) ∙ h in
        let found : IsFound name older index (found_in name older index rest).0 = (found_in name older index rest).1 in
        let less : start ≤ length older = omega (arith, found.within) in
        let more : suc (length older) - start ≡ suc (length older - start) = omega arith in
        rw (more, e) (inner less rest)

pub declared-outside : (name : List ℕ) (stack : List Declaration) (start index : ℕ) → newest_of name stack ≡ Some index → index < start → declared_in name (map naming_of (take (length stack - start) stack)) ≡ None
unfolding newest_of
declared-outside name [] start index h i = cc
declared-outside name (d ∷ older) start index h i = by (bytes_eq name d.name.items) refl (suc (length older) - start) refl (λ rest. declared-outside name older start index rest i)
  where
    by : (b : Bool) → bytes_eq name d.name.items ≡ b → (k : ℕ) → suc (length older) - start ≡ k → (newest_of name older ≡ Some index → declared_in name (map naming_of (take (length older - start) older)) ≡ None) → declared_in name (map naming_of (take k (d ∷ older))) ≡ None
    by true e k q inner =
        let at : Some (length older) ≡ Some index = sym (ap (λ b. cond b (Some (length older)) (newest_of name older)) e) ∙ h in
        let here : length older ≡ index = cc in
        let nothing : k ≡ 0 = omega arith in
        rw nothing refl
    by false e zero q inner = refl
    by false e (suc k) q inner =
        let rest : newest_of name older ≡ Some index = sym (ap (λ b. cond b (Some (length older)) (newest_of name older)) e) ∙ h in
        let same : k ≡ length older - start = omega arith in
        rw (e, same) (inner rest)

pub declared-none : (name : List ℕ) (stack : List Declaration) (k : ℕ) → declared_in name (map naming_of stack) ≡ None → declared_in name (map naming_of (take k stack)) ≡ None
declared-none name stack zero h = refl
declared-none name [] (suc k) h = refl
declared-none name (d ∷ older) (suc k) h = by (bytes_eq name d.name.items) refl (λ rest. declared-none name older k rest)
  where
    by : (b : Bool) → bytes_eq name d.name.items ≡ b → (declared_in name (map naming_of older) ≡ None → declared_in name (map naming_of (take k older)) ≡ None) → declared_in name (map naming_of (take (suc k) (d ∷ older))) ≡ None
    by true e inner = let clash : Some d.what ≡ None = sym (ap (λ b. cond b (Some d.what) (declared_in name (map naming_of older))) e) ∙ h in cc
    by false e inner = rw e (inner (sym (ap (λ b. cond b (Some d.what) (declared_in name (map naming_of older))) e) ∙ h))

-- ---- a declaration, and the ends of a block

pub blocks-push : (starts : List ℕ) (d : Declaration) (stack : List Declaration) → StartWithin (length stack) starts → blocks_of starts (d ∷ stack) ≡ with_declaration (naming_of d) (blocks_of starts stack)
unfolding blocks_of StartWithin
blocks-push [] d stack within = refl
blocks-push (start ∷ starts) d stack within =
    let less : start ≤ length stack = within.0 in
    let more : suc (length stack) - start ≡ suc (length stack - start) = omega arith in
    rw more refl

pub blocks-enter : (starts : List ℕ) (stack : List Declaration) → blocks_of (length stack ∷ starts) stack ≡ [] ∷ blocks_of starts stack
unfolding blocks_of
blocks-enter starts stack =
    let nothing : length stack - length stack ≡ 0 = omega arith in
    rw nothing refl

pub within-push : (count : ℕ) (starts : List ℕ) → StartWithin count starts → StartWithin (suc count) starts
unfolding StartWithin
within-push count [] h = tt
within-push count (start ∷ starts) h = (omega (arith, h.0), h.1)

pub within-enter : (count : ℕ) (starts : List ℕ) → StartWithin count starts → StartWithin count (count ∷ starts)
unfolding StartWithin
within-enter count starts h = (omega arith, h)

-- while the declarations from `start` on are taken away
pub record IsForgetting (known : List ℕ → Option ℕ) (start : ℕ) (first now : List Declaration) : Type 0 where
  pub indexed : IsIndexed known (reverse now)
  pub within : start ≤ length now
  pub rest : drop (length now - start) (reverse now) ≡ drop (length first - start) (reverse first)

dropped : {A : Type 0} (xs : List A) (start : ℕ) → start < length xs → drop (length (drop 1 xs) - start) (drop 1 xs) ≡ drop (length xs - start) xs
dropped [] start h = absurd (omega arith)
dropped (x ∷ xs) start h =
    let more : suc (length xs) - start ≡ suc (length xs - start) = omega arith in
    rw more refl

reverse-push : {A : Type 0} (xs : List A) (x : A) → reverse (xs ++ x ∷ []) ≡ x ∷ reverse xs
reverse-push xs x = reverse-append xs (x ∷ [])

module _ (start : ℕ) (first now : List Declaration) where
  pub forget-starts : (known : List ℕ → Option ℕ) → IsIndexed known (reverse first) → start ≤ length first → IsForgetting known start first first
  forget-starts known ok within = record { indexed = ok; within = within; rest = refl }

  pub forget-step : (known new : List ℕ → Option ℕ) (rest : List Declaration) → IsForgetting known start first now → start < length now → IsIndexed new (reverse rest) → reverse rest ≡ drop 1 (reverse now) → IsForgetting new start first rest
  forget-step known new rest ok more indexed dropped-one =
      let less : length rest ≡ length now - 1 = sym (length-reverse rest) ∙ ap length dropped-one ∙ length-drop 1 (reverse now) ∙ ap (λ n. n - 1) (length-reverse now) in
      record {
        indexed = indexed;
        within = omega arith;
        rest = ap (λ n. drop (n - start) (reverse rest)) (sym (length-reverse rest)) ∙ ap (λ (xs : List Declaration). drop (length xs - start) xs) dropped-one
            ∙ dropped (reverse now) start (omega (arith, length-reverse now)) ∙ ap (λ n. drop (n - start) (reverse now)) (length-reverse now) ∙ ok.rest;
      }

  pub forget-ends : (known : List ℕ → Option ℕ) → IsForgetting known start first now → length now ≤ start → reverse now ≡ drop (length first - start) (reverse first)
  forget-ends known ok past =
      let none : length now - start ≡ 0 = omega arith in
      ap (λ n. drop n (reverse now)) (sym none) ∙ ok.rest

newest-here : (d : Declaration) (older : List Declaration) → newest_of d.name.items (d ∷ older) ≡ Some (length older)
unfolding newest_of
newest-here d older = rw ((bytes_eq-Decides d.name.items d.name.items).1 refl) refl

-- the newest declaration is taken away
module _ (old rest : List Declaration) (d : Declaration) (popped : old ≡ rest ++ d ∷ []) where
  pub reverse-popped : reverse old ≡ d ∷ reverse rest
  reverse-popped = ap reverse popped ∙ reverse-push rest d

  pub IsIndexed-popped : (known new : List ℕ → Option ℕ) → IsIndexed known (reverse old) → Changes known new d.name.items d.hidden → IsIndexed new (reverse rest)
  IsIndexed-popped known new ok changes = IsIndexed-pop known new d (reverse rest) (subst (λ (xs : List Declaration). IsIndexed known xs) reverse-popped ok) changes

  pub newest-popped : (known : List ℕ → Option ℕ) → IsIndexed known (reverse old) → known d.name.items ≡ Some (length (reverse rest))
  newest-popped known ok = ok.newest d.name.items ∙ ap (newest_of d.name.items) reverse-popped ∙ newest-here d (reverse rest)

-- ---- a block is left

module _ (starts rest : List ℕ) (start : ℕ) (stack left : List Declaration) (popped : starts ≡ rest ++ start ∷ []) (gone : left ≡ drop (length stack - start) stack) where
  starts-popped : reverse starts ≡ start ∷ reverse rest
  starts-popped = ap reverse popped ∙ reverse-push rest start

  pub blocks-leave : blocks_of (reverse rest) left ≡ outer_blocks (blocks_of (reverse starts) stack)
  unfolding blocks_of
  blocks-leave = rw (starts-popped, gone) refl

  pub within-leave : StartWithin (length stack) (reverse starts) → (start ≤ length stack) × StartWithin (length left) (reverse rest)
  unfolding StartWithin
  within-leave h =
      let both : StartWithin (length stack) (start ∷ reverse rest) = subst (λ (xs : List ℕ). StartWithin (length stack) xs) starts-popped h in
      let less : start ≤ length stack = both.0 in
      let size : length left ≡ start = ap length gone ∙ length-drop (length stack - start) stack ∙ omega arith in
      (less, subst (λ n. StartWithin n (reverse rest)) (sym size) both.1)

pub one_block : (starts : List ℕ) (stack : List Declaration) → starts ≡ [] → 1 < length (blocks_of starts stack) → ⊥
unfolding blocks_of
one_block starts stack none more = let h : 1 < 1 = subst (λ (xs : List ℕ). 1 < length (blocks_of xs stack)) none more in omega arith

-- ---- a block is entered

module _ (starts more : List ℕ) (count : ℕ) (declarations : List Declaration) (pushed : more ≡ starts ++ count ∷ []) (size : count ≡ length declarations) where
  starts-pushed : reverse more ≡ length (reverse declarations) ∷ reverse starts
  starts-pushed = ap reverse pushed ∙ reverse-push starts count ∙ ap (λ n. n ∷ reverse starts) (size ∙ sym (length-reverse declarations))

  pub enter_blocks : blocks_of (reverse more) (reverse declarations) ≡ [] ∷ blocks_of (reverse starts) (reverse declarations)
  enter_blocks = ap (λ (xs : List ℕ). blocks_of xs (reverse declarations)) starts-pushed ∙ blocks-enter (reverse starts) (reverse declarations)

  pub enter_within : (known : List ℕ → Option ℕ) → IsStack known (reverse declarations) (reverse starts) → IsStack known (reverse declarations) (reverse more)
  enter_within known ok = record {
    indexed = ok.indexed;
    within = subst (λ (xs : List ℕ). StartWithin (length (reverse declarations)) xs) (sym starts-pushed) (within-enter (length (reverse declarations)) (reverse starts) ok.within);
  }

-- ---- a declaration

module _ (starts : List ℕ) (declarations more : List Declaration) (d : Declaration) (pushed : more ≡ declarations ++ d ∷ []) where
  reverse-pushed : reverse more ≡ d ∷ reverse declarations
  reverse-pushed = ap reverse pushed ∙ reverse-push declarations d

  pub declare_stack : (known new : List ℕ → Option ℕ) (index : ℕ) → index ≡ length declarations → IsStack known (reverse declarations) (reverse starts) → Changes known new d.name.items (Some index) → d.hidden ≡ known d.name.items → IsStack new (reverse more) (reverse starts)
  declare_stack known new index size ok changes hidden =
      let at : index ≡ length (reverse declarations) = size ∙ sym (length-reverse declarations) in
      let here : Changes known new d.name.items (Some (length (reverse declarations))) = subst (λ n. Changes known new d.name.items (Some n)) at changes in
      record {
        indexed = subst (λ (xs : List Declaration). IsIndexed new xs) (sym reverse-pushed) (IsIndexed-push known new d (reverse declarations) ok.indexed here hidden);
        within = subst (λ (xs : List Declaration). StartWithin (length xs) (reverse starts)) (sym reverse-pushed) (within-push (length (reverse declarations)) (reverse starts) ok.within);
      }

  pub declare_blocks : (known : List ℕ → Option ℕ) → IsStack known (reverse declarations) (reverse starts) → blocks_of (reverse starts) (reverse more) ≡ with_declaration (naming_of d) (blocks_of (reverse starts) (reverse declarations))
  declare_blocks known ok = ap (blocks_of (reverse starts)) reverse-pushed ∙ blocks-push (reverse starts) d (reverse declarations) ok.within

-- the same declarations, and a tree that leads to the same
pub same_stack : (known new : List ℕ → Option ℕ) (stack other : List Declaration) (starts : List ℕ) → ((name : List ℕ) → new name ≡ known name) → other ≡ stack → IsStack known stack starts → IsStack new other starts
same_stack known new stack other starts same e ok =
    subst (λ (xs : List Declaration). IsStack new xs starts) (sym e) (record { indexed = record { newest = λ name. same name ∙ ok.indexed.newest name; remembers = ok.indexed.remembers }; within = ok.within })

-- ---- what a look-up answers

module _ (known : List ℕ → Option ℕ) (declarations : List Declaration) (starts : List ℕ) (ok : IsStack known (reverse declarations) starts) (name : List ℕ) where
  reversed-twice : reverse (reverse declarations) ≡ declarations
  reversed-twice = reverse-reverse declarations

  pub found_at : (index : ℕ) → known name ≡ Some index → (d : Declaration) × IsFound name (reverse declarations) index d
  found_at index h = found_in name (reverse declarations) index (sym (ok.indexed.newest name) ∙ h)

  pub index_within : (index : ℕ) → known name ≡ Some index → index < length declarations
  index_within index h = let found : IsFound name (reverse declarations) index (found_at index h).0 = (found_at index h).1 in omega (arith, found.within, length-reverse declarations)

  pub means_at : (index : ℕ) (d : Declaration) → known name ≡ Some index → slice_get declarations index ≡ Some d → declared_in name (map naming_of (reverse declarations)) ≡ Some d.what
  means_at index d h at =
      let e : Declaration = (found_at index h).0 in
      let found : IsFound name (reverse declarations) index e = (found_at index h).1 in
      let same : Some e ≡ Some d = sym found.there ∙ ap (λ (xs : List Declaration). slice_get xs index) reversed-twice ∙ at in
      let one : e ≡ d = cc in
      found.means ∙ ap (λ (x : Declaration). Some x.what) one

  pub visible_at : (index : ℕ) (d : Declaration) → known name ≡ Some index → slice_get declarations index ≡ Some d → visible name (blocks_of starts (reverse declarations)) ≡ Some d.what
  visible_at index d h at = visible-blocks name starts (reverse declarations) ∙ means_at index d h at

  pub visible_none : known name ≡ None → visible name (blocks_of starts (reverse declarations)) ≡ None
  visible_none h = visible-blocks name starts (reverse declarations) ∙ none_in name (reverse declarations) (sym (ok.indexed.newest name) ∙ h)

-- where the innermost block begins
abbrev pub first_start : List ℕ → ℕ
first_start [] = 0
first_start (start ∷ starts) = start

innermost-blocks : (starts : List ℕ) (stack : List Declaration) → StartWithin (length stack) starts → innermost (blocks_of starts stack) ≡ map naming_of (take (length stack - first_start starts) stack)
unfolding blocks_of
innermost-blocks [] stack within = ap (map naming_of) (sym (all_taken stack))
  where
    all_taken : (xs : List Declaration) → take (length xs - 0) xs ≡ xs
    all_taken xs = rw sub-zero (take-length xs)
innermost-blocks (start ∷ starts) stack within = refl

first_within : (count : ℕ) (starts : List ℕ) → StartWithin count starts → first_start starts ≤ count
unfolding StartWithin
first_within count [] h = omega arith
first_within count (start ∷ starts) h = h.0

module _ (known : List ℕ → Option ℕ) (declarations : List Declaration) (starts : List ℕ) (ok : IsStack known (reverse declarations) starts) (name : List ℕ) where
  pub here_at : (index : ℕ) (d : Declaration) → known name ≡ Some index → slice_get declarations index ≡ Some d → first_start starts ≤ index → declared_in name (innermost (blocks_of starts (reverse declarations))) ≡ Some d.what
  here_at index d h at past =
      ap (declared_in name) (innermost-blocks starts (reverse declarations) ok.within)
      ∙ declared-here name (reverse declarations) (first_start starts) index (first_within (length (reverse declarations)) starts ok.within) (sym (ok.indexed.newest name) ∙ h) past
      ∙ means_at known declarations starts ok name index d h at

  pub here_outside : (index : ℕ) → known name ≡ Some index → index < first_start starts → declared_in name (innermost (blocks_of starts (reverse declarations))) ≡ None
  here_outside index h before =
      ap (declared_in name) (innermost-blocks starts (reverse declarations) ok.within)
      ∙ declared-outside name (reverse declarations) (first_start starts) index (sym (ok.indexed.newest name) ∙ h) before

  pub here_none : known name ≡ None → declared_in name (innermost (blocks_of starts (reverse declarations))) ≡ None
  here_none h =
      ap (declared_in name) (innermost-blocks starts (reverse declarations) ok.within)
      ∙ declared-none name (reverse declarations) (length (reverse declarations) - first_start starts) (none_in name (reverse declarations) (sym (ok.indexed.newest name) ∙ h))

-- the last of a list is the first of it reversed
pub last_start : (starts : List ℕ) (last : Option ℕ) → last ≡ slice_get starts (length starts - 1) → unwrap_or last 0 ≡ first_start (reverse starts)
last_start starts last h = ap (λ o. unwrap_or o 0) h ∙ by (reverse starts) refl
  where
    by : (xs : List ℕ) → reverse starts ≡ xs → unwrap_or (slice_get starts (length starts - 1)) 0 ≡ first_start xs
    by [] e =
        let empty : starts ≡ [] = sym (reverse-reverse starts) ∙ ap reverse e in
        rw empty refl
    by (x ∷ xs) e =
        let whole : starts ≡ reverse xs ++ x ∷ [] = sym (reverse-reverse starts) ∙ ap reverse e ∙ reverse-cons x xs in
        let size : length starts - 1 ≡ length (reverse xs) = omega (arith, ap length whole, length-append (reverse xs) (x ∷ [])) in
        ap (λ n. unwrap_or (slice_get starts n) 0) size ∙ ap (λ (ys : List ℕ). unwrap_or (slice_get ys (length (reverse xs))) 0) whole
        ∙ ap (λ o. unwrap_or o 0) (slice_get-at (reverse xs) x)

pub no_elements : {A : Type 0} (xs : List A) → length xs ≡ 0 → xs ≡ []
no_elements [] h = refl
no_elements (x ∷ xs) h = absurd (omega arith)

-- ---- the newest declaration is taken back

taken_back : (starts : List ℕ) (stack : List Declaration) → StartWithin (length stack) starts → 0 < length (innermost (blocks_of starts stack)) → (0 < length stack) × StartWithin (length (drop 1 stack)) starts × (blocks_of starts (drop 1 stack) ≡ without_newest (blocks_of starts stack))
unfolding blocks_of StartWithin
taken_back [] [] within some = absurd (omega arith)
taken_back [] (d ∷ older) within some = (omega arith, tt, refl)
taken_back (start ∷ starts) [] within some = absurd (no_more some)
  where
    no_more : 0 < length (map naming_of (take (0 - start) [])) → ⊥
    no_more h = by (0 - start) h
      where
        by : (k : ℕ) → 0 < length (map naming_of (take k [])) → ⊥
        by zero g = omega arith
        by (suc k) g = omega arith
taken_back (start ∷ starts) (d ∷ older) within some = by (suc (length older) - start) refl some
  where
    by : (k : ℕ) → suc (length older) - start ≡ k → 0 < length (map naming_of (take k (d ∷ older))) → (0 < suc (length older)) × ((start ≤ length older) × StartWithin start starts) × ((map naming_of (take (length older - start) older) ∷ blocks_of starts (drop (length older - start) older)) ≡ without_newest (map naming_of (take (suc (length older) - start) (d ∷ older)) ∷ blocks_of starts (drop (suc (length older) - start) (d ∷ older))))
    by zero e g = absurd (omega arith)
    by (suc k) e g =
        let less : start ≤ length older = omega arith in
        let more : suc (length older) - start ≡ suc (length older - start) = omega arith in
        (omega arith, (less, within.1), rw more refl)

module _ (starts : List ℕ) (declarations : List Declaration) (known : List ℕ → Option ℕ) (ok : IsStack known (reverse declarations) (reverse starts)) (some : 0 < length (innermost (blocks_of (reverse starts) (reverse declarations)))) where
  pub take_back_some : 0 < length declarations
  take_back_some =
      let t = taken_back (reverse starts) (reverse declarations) ok.within some in
      omega (arith, t.0, length-reverse declarations)

  pub take_back_stack : (new : List ℕ → Option ℕ) (rest : List Declaration) → IsIndexed new (reverse rest) → reverse rest ≡ drop 1 (reverse declarations) → IsStack new (reverse rest) (reverse starts)
  take_back_stack new rest indexed gone =
      let t = taken_back (reverse starts) (reverse declarations) ok.within some in
      record { indexed = indexed; within = subst (λ (xs : List Declaration). StartWithin (length xs) (reverse starts)) (sym gone) t.1 }

  pub take_back_blocks : (rest : List Declaration) → reverse rest ≡ drop 1 (reverse declarations) → blocks_of (reverse starts) (reverse rest) ≡ without_newest (blocks_of (reverse starts) (reverse declarations))
  take_back_blocks rest gone =
      let t = taken_back (reverse starts) (reverse declarations) ok.within some in
      ap (blocks_of (reverse starts)) gone ∙ t.2

-- ---- the innermost block

take-front : {A : Type 0} (a b : List A) → take (length a) (a ++ b) ≡ a
take-front [] b = refl
take-front (x ∷ a) b = ap (λ xs. x ∷ xs) (take-front a b)

-- what stands behind an index is the newest of a list
take-newest : {A : Type 0} (start : ℕ) (xs : List A) → reverse (drop start xs) ≡ take (length xs - start) (reverse xs)
take-newest start xs =
    let size : length xs - start ≡ length (reverse (drop start xs)) = sym (length-reverse (drop start xs) ∙ length-drop start xs) in
    let whole : reverse xs ≡ reverse (drop start xs) ++ reverse (take start xs) = ap reverse (sym (take-append-drop start xs)) ∙ reverse-append (take start xs) (drop start xs) in
    sym (ap (λ n. take n (reverse xs)) size ∙ ap (take (length (reverse (drop start xs)))) whole ∙ take-front (reverse (drop start xs)) (reverse (take start xs)))

module _ (known : List ℕ → Option ℕ) (declarations : List Declaration) (starts : List ℕ) (ok : IsStack known (reverse declarations) starts) (start : ℕ) (begins : start ≡ first_start starts) where
  pub innermost_within : start ≤ length declarations
  innermost_within = omega (arith, first_within (length (reverse declarations)) starts ok.within, length-reverse declarations)

  pub innermost_is : map naming_of (reverse (drop start declarations)) ≡ innermost (blocks_of starts (reverse declarations))
  innermost_is =
      ap (map naming_of) (take-newest start declarations ∙ ap (λ n. take (n - start) (reverse declarations)) (sym (length-reverse declarations))
      ∙ ap (λ n. take (length (reverse declarations) - n) (reverse declarations)) begins)
      ∙ sym (innermost-blocks starts (reverse declarations) ok.within)

-- ---- declarations that are copied

map-reverse : {A B : Type 0} (f : A → B) (xs : List A) → map f (reverse xs) ≡ reverse (map f xs)
map-reverse f [] = refl
map-reverse f (x ∷ xs) = ap (map f) (reverse-cons x xs) ∙ map-append f (reverse xs) (x ∷ []) ∙ ap (λ ys. ys ++ f x ∷ []) (map-reverse f xs) ∙ sym (reverse-cons (f x) (map f xs))

pub copied_all : (list ds : List Declaration) (i : ℕ) → length ds ≤ i → map naming_of list ≡ map naming_of (take i ds) → map naming_of (reverse list) ≡ map naming_of (reverse ds)
copied_all list ds i past h = map-reverse naming_of list ∙ ap reverse (h ∙ ap (map naming_of) (take_all i ds past)) ∙ sym (map-reverse naming_of ds)
