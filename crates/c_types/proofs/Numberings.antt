-- A table of types with one entry more.
use Rattle.std.proofs.Common.{◌≡◌, ◌≢◌, ℕ, zero, suc, ◌<◌, Bool, true, false, cond, List, [], ◌∷◌, ◌++◌, length, Option, Some, None, Result, Ok, Err, IsTrue, refl, sym, ap, ◌∙◌, subst, inl, inr, ⊎_elim, ◌⊎◌, arith}
use Rattle.std.specs.Prelude.{slice_get, slice_set}
use Rattle.std.specs.Ordering.{is_eq}
use Rattle.std.specs.declared.cmp.Ordering.{Ordering}
use Rattle.std.specs.declared.cmp.Ordering.TheVariants.{Less, Equal, Greater}
use Rattle.std.specs.Map.{lookup}
use Rattle.std.specs.Result.{is_err, OnOk, OnErr}
use Rattle.std.specs.BTreeMap.{BTreeMap, get, is_at, Updates, IsUnchanged}
use Rattle.std.proofs.lemmas.Option.{slice_get_within}
use Rattle.c_types.specs.declared.ctype.CType.TheVariants.{Void, Integer, Enumeration, Pointer, ArrayOf, Function, Structure, Union}
use Rattle.c_types.specs.declared.ctype.Extent.{Extent}
use Rattle.c_types.specs.declared.entry.Tag.{Tag}
use Rattle.c_types.specs.declared.entry.Tag.TheVariants.{Structure as StructureTag, Union as UnionTag, Enumeration as EnumerationTag}
use Rattle.c_types.specs.declared.entry.Entry.{Entry}
use Rattle.c_types.specs.declared.entry.Entry.TheVariants.{OfType, NoParameters, Parameters}
use Rattle.c_types.specs.contracts.entry.EntryOrd.TheImpl as EntryOrder
use Rattle.c_types.specs.Tables.{is_derived, IsAt, IsNumbered, tag_type}
use Rattle.c_types.proofs.Orders.{same_entry}

pub slice_get-push_before : {A : Type 0} (xs : List A) (y : A) (n : ℕ) → n < length xs → slice_get (xs ++ y ∷ []) n ≡ slice_get xs n
slice_get-push_before [] y n h = absurd (omega arith)
slice_get-push_before (x ∷ xs) y zero h = refl
slice_get-push_before (x ∷ xs) y (suc n) h = slice_get-push_before xs y n (omega arith)

pub slice_get-push_at : {A : Type 0} (xs : List A) (y : A) → slice_get (xs ++ y ∷ []) (length xs) ≡ Some y
slice_get-push_at [] y = refl
slice_get-push_at (x ∷ xs) y = slice_get-push_at xs y

-- an index of the longer list is one of the shorter, or the new one
pub push_cases : {A : Type 0} (xs : List A) (y e : A) (n : ℕ) → slice_get (xs ++ y ∷ []) n ≡ Some e → ((n < length xs) × (slice_get xs n ≡ Some e)) ⊎ ((n ≡ length xs) × (y ≡ e))
push_cases [] y e zero h = inr (refl, cc)
push_cases [] y e (suc n) h = cc
push_cases (x ∷ xs) y e zero h = inl (omega arith, h)
push_cases (x ∷ xs) y e (suc n) h = ⊎_elim (λ p. inl (omega (arith, p.0), p.1)) (λ p. inr (omega (arith, p.0), p.1)) (push_cases xs y e n h)

derived_anywhere : (e : Entry) (n : ℕ) → IsTrue (is_derived e) → IsAt e n
derived_anywhere (OfType Void) n h = tt
derived_anywhere (OfType (Integer k)) n h = tt
derived_anywhere (OfType (Enumeration t)) n h = cc
derived_anywhere (OfType (Pointer p)) n h = tt
derived_anywhere (OfType (ArrayOf a)) n h = tt
derived_anywhere (OfType (Function s)) n h = tt
derived_anywhere (OfType (Structure t x)) n h = cc
derived_anywhere (OfType (Union t x)) n h = cc
derived_anywhere NoParameters n h = tt
derived_anywhere (Parameters a b) n h = tt

told_equal : (o : Ordering) → is_eq o ≡ true → o ≡ Equal
told_equal Equal h = refl
told_equal Less h = cc
told_equal Greater h = cc

module _ (entries : List Entry) (before after : BTreeMap Entry ℕ) (entry : Entry) (ok : IsNumbered entries before) (absent : get (EntryOrder.ghosts).cmp before entry ≡ None) (derived : IsTrue (is_derived entry)) (updates : Updates (EntryOrder.ghosts).cmp before after entry (Some (length entries))) where
  -- the entry that the order does not tell from the new one is the new one
  same_as_new : (e : Entry) → is_at ((EntryOrder.ghosts).cmp entry) e ≡ true → entry ≡ e
  same_as_new e h = same_entry entry e (told_equal ((EntryOrder.ghosts).cmp entry e) h)

  found_after :
      (b : Bool) (e : Entry) (n : ℕ) → is_at ((EntryOrder.ghosts).cmp entry) e ≡ b →
      cond b (Some (length entries)) (get (EntryOrder.ghosts).cmp before e) ≡ Some n →
      slice_get (entries ++ entry ∷ []) n ≡ Some e
  found_after true e n t h =
      let number : length entries ≡ n = cc in
      subst (λ (k : ℕ). slice_get (entries ++ entry ∷ []) k ≡ Some e) number (slice_get-push_at entries entry ∙ ap Some (same_as_new e t))
  found_after false e n t h =
      let old = ok.found e n h in
      slice_get-push_before entries entry n (slice_get_within entries n e old) ∙ old

  known_after :
      (b : Bool) (e : Entry) (n : ℕ) → is_at ((EntryOrder.ghosts).cmp entry) e ≡ b →
      slice_get entries n ≡ Some e → IsTrue (is_derived e) →
      cond b (Some (length entries)) (get (EntryOrder.ghosts).cmp before e) ≡ Some n
  known_after true e n t at d =
      let old = ok.known e n at d in
      let same = ap (λ (x : Entry). get (EntryOrder.ghosts).cmp before x) (same_as_new e t) in
      cc
  known_after false e n t at d = ok.known e n at d

  only_after : (b : Bool) (e : Entry) (n : ℕ) → is_at ((EntryOrder.ghosts).cmp entry) e ≡ b → cond b (Some (length entries)) (get (EntryOrder.ghosts).cmp before e) ≡ Some n → IsTrue (is_derived e)
  only_after true e n t h = subst (λ (x : Entry). IsTrue (is_derived x)) (same_as_new e t) derived
  only_after false e n t h = ok.only e n h

  pub IsNumbered-push : IsNumbered (entries ++ entry ∷ []) after
  IsNumbered-push = record {
    found = λ e n h. found_after (is_at ((EntryOrder.ghosts).cmp entry) e) e n refl (sym (updates.0 e) ∙ h);
    known = λ e n at d. ⊎_elim (λ p. updates.0 e ∙ known_after (is_at ((EntryOrder.ghosts).cmp entry) e) e n refl p.1 d)
        (λ p. ap (λ (x : Entry). get (EntryOrder.ghosts).cmp after x) (sym p.1) ∙ updates.1 ∙ ap Some (sym p.0)) (push_cases entries entry e n at);
    only = λ e n h. only_after (is_at ((EntryOrder.ghosts).cmp entry) e) e n refl (sym (updates.0 e) ∙ h);
    own = λ e n at. ⊎_elim (λ p. ok.own e n p.1) (λ p. subst (λ (x : Entry). IsAt x n) p.1 (derived_anywhere entry n derived)) (push_cases entries entry e n at);
  }

-- what holds where a result is known to be `Ok` or `Err`
pub on_ok : {T E : Type 0} (r : Result T E) (P : Type 0) → is_err r ≡ false → OnOk r P → P
on_ok (Ok x) P e h = h
on_ok (Err x) P e h = cc

pub on_err : {T E : Type 0} (r : Result T E) (P : Type 0) → is_err r ≡ true → OnErr r P → P
on_err (Ok x) P e h = cc
on_err (Err x) P e h = h

-- the same entries, and a map that finds the same
pub IsNumbered-same : (entries others : List Entry) (before after : BTreeMap Entry ℕ) → IsNumbered entries before → others ≡ entries → IsUnchanged before after → IsNumbered others after
IsNumbered-same entries others before after ok e u =
    let same : (q : Entry) → get (EntryOrder.ghosts).cmp after q ≡ get (EntryOrder.ghosts).cmp before q = λ q. ap (λ (es : List (Entry × ℕ)). lookup (is_at ((EntryOrder.ghosts).cmp q)) es) u in
    record {
      found = λ q n h. ap (λ (xs : List Entry). slice_get xs n) e ∙ ok.found q n (sym (same q) ∙ h);
      known = λ q n at d. same q ∙ ok.known q n (sym (ap (λ (xs : List Entry). slice_get xs n) e) ∙ at) d;
      only = λ q n h. ok.only q n (sym (same q) ∙ h);
      own = λ q n at. ok.own q n (sym (ap (λ (xs : List Entry). slice_get xs n) e) ∙ at);
    }

-- ---- types of their own

pub tagged_is_not_derived : (tag : Tag) (n : ℕ) (contents : Option Extent) → is_derived (OfType (tag_type tag n contents)) ≡ false
tagged_is_not_derived StructureTag n contents = refl
tagged_is_not_derived UnionTag n contents = refl
tagged_is_not_derived EnumerationTag n contents = refl

pub tagged_is_at : (tag : Tag) (n : ℕ) (contents : Option Extent) → IsAt (OfType (tag_type tag n contents)) n
tagged_is_at StructureTag n contents = refl
tagged_is_at UnionTag n contents = refl
tagged_is_at EnumerationTag n contents = refl

both_ways : (e : Entry) → is_derived e ≡ false → IsTrue (is_derived e) → ⊥
both_ways e p q = let clash : true ≡ false = sym q ∙ p in cc

module _ (entries : List Entry) (numbers : BTreeMap Entry ℕ) (entry : Entry) (ok : IsNumbered entries numbers) (own : is_derived entry ≡ false) where
  pub IsNumbered-declare : IsAt entry (length entries) → IsNumbered (entries ++ entry ∷ []) numbers
  IsNumbered-declare at-end = record {
    found = λ e n h. let old = ok.found e n h in slice_get-push_before entries entry n (slice_get_within entries n e old) ∙ old;
    known = λ e n at d. ⊎_elim (λ p. ok.known e n p.1 d) (λ p. absurd (both_ways e (subst (λ (x : Entry). is_derived x ≡ false) p.1 own) d)) (push_cases entries entry e n at);
    only = ok.only;
    own = λ e n at. ⊎_elim (λ p. ok.own e n p.1) (λ p. subst (λ (x : Entry). IsAt x n) p.1 (subst (λ (k : ℕ). IsAt entry k) (sym p.0) at-end)) (push_cases entries entry e n at);
  }

-- an index of a list with one entry set is another, or that one
pub set_cases : {A : Type 0} (xs : List A) (i : ℕ) (y e : A) (n : ℕ) → slice_get (slice_set xs i y) n ≡ Some e → ((n ≢ i) × (slice_get xs n ≡ Some e)) ⊎ ((n ≡ i) × (y ≡ e))
set_cases [] i y e n h = cc
set_cases (x ∷ xs) zero y e zero h = inr (refl, cc)
set_cases (x ∷ xs) zero y e (suc n) h = inl (λ (p : suc n ≡ zero). cc, h)
set_cases (x ∷ xs) (suc i) y e zero h = inl (λ (p : zero ≡ suc i). cc, h)
set_cases (x ∷ xs) (suc i) y e (suc n) h = ⊎_elim (λ p. inl (λ (q : suc n ≡ suc i). p.0 (omega arith), p.1)) (λ p. inr (omega (arith, p.0), p.1)) (set_cases xs i y e n h)

set_elsewhere : {A : Type 0} (xs : List A) (i : ℕ) (y : A) (n : ℕ) → n ≢ i → slice_get (slice_set xs i y) n ≡ slice_get xs n
set_elsewhere [] i y n h = refl
set_elsewhere (x ∷ xs) zero y zero h = absurd (h refl)
set_elsewhere (x ∷ xs) zero y (suc n) h = refl
set_elsewhere (x ∷ xs) (suc i) y zero h = refl
set_elsewhere (x ∷ xs) (suc i) y (suc n) h = set_elsewhere xs i y n (λ (q : n ≡ i). h (ap suc q))

module _ (entries : List Entry) (numbers : BTreeMap Entry ℕ) (i : ℕ) (before after : Entry) (ok : IsNumbered entries numbers) (at-i : slice_get entries i ≡ Some before) (own : is_derived before ≡ false) (new-own : is_derived after ≡ false) (is-at : IsAt after i) where
  elsewhere : (e : Entry) (n : ℕ) → slice_get entries n ≡ Some e → IsTrue (is_derived e) → n ≢ i
  elsewhere e n at d = λ (q : n ≡ i). both_ways e (subst (λ (x : Entry). is_derived x ≡ false) (same q) own) d where
    same : n ≡ i → before ≡ e
    same q = let h = sym at-i ∙ ap (λ (k : ℕ). slice_get entries k) (sym q) ∙ at in cc

  pub IsNumbered-complete : IsNumbered (slice_set entries i after) numbers
  IsNumbered-complete = record {
    found = λ e n h. let old = ok.found e n h in set_elsewhere entries i after n (elsewhere e n old (ok.only e n h)) ∙ old;
    known = λ e n at d. ⊎_elim (λ p. ok.known e n p.1 d) (λ p. absurd (both_ways e (subst (λ (x : Entry). is_derived x ≡ false) p.1 new-own) d)) (set_cases entries i after e n at);
    only = ok.only;
    own = λ e n at. ⊎_elim (λ p. ok.own e n p.1) (λ p. subst (λ (x : Entry). IsAt x n) p.1 (subst (λ (k : ℕ). IsAt after k) (sym p.0) is-at)) (set_cases entries i after e n at);
  }

-- ---- one number

module _ (entries : List Entry) (numbers : BTreeMap Entry ℕ) (ok : IsNumbered entries numbers) where
  derived_once : (e : Entry) → IsTrue (is_derived e) → (i j : ℕ) → slice_get entries i ≡ Some e → slice_get entries j ≡ Some e → i ≡ j
  derived_once e d i j p q = let first = ok.known e i p d in let second = ok.known e j q d in cc

  pub one_number : (e : Entry) (i j : ℕ) → slice_get entries i ≡ Some e → slice_get entries j ≡ Some e → i ≡ j
  one_number (OfType Void) i j p q = derived_once (OfType Void) refl i j p q
  one_number (OfType (Integer k)) i j p q = derived_once (OfType (Integer k)) refl i j p q
  one_number (OfType (Pointer t)) i j p q = derived_once (OfType (Pointer t)) refl i j p q
  one_number (OfType (ArrayOf a)) i j p q = derived_once (OfType (ArrayOf a)) refl i j p q
  one_number (OfType (Function s)) i j p q = derived_once (OfType (Function s)) refl i j p q
  one_number (OfType (Structure t x)) i j p q = sym (ok.own (OfType (Structure t x)) i p) ∙ ok.own (OfType (Structure t x)) j q
  one_number (OfType (Union t x)) i j p q = sym (ok.own (OfType (Union t x)) i p) ∙ ok.own (OfType (Union t x)) j q
  one_number (OfType (Enumeration t)) i j p q = sym (ok.own (OfType (Enumeration t)) i p) ∙ ok.own (OfType (Enumeration t)) j q
  one_number NoParameters i j p q = derived_once NoParameters refl i j p q
  one_number (Parameters a b) i j p q = derived_once (Parameters a b) refl i j p q
