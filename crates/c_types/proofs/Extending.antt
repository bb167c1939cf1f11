-- A table that gets an entry is the one that the extensions say: the entry stands once.
use Rattle.std.proofs.Common.{◌≡◌, ℕ, zero, suc, ◌+◌, ◌-◌, ◌≤◌, ◌%◌, Bool, true, false, IsTrue, List, [], ◌∷◌, ◌++◌, length, Option, Some, None, Ok, refl, sym, ap, ◌∙◌, subst, arith}
use Rattle.std.specs.Prelude.{slice_get, if◌then◌else◌}
use Rattle.std.specs.Ordering.{is_eq}
use Rattle.std.specs.Cmp.{eq_by_cmp_equiv}
use Rattle.std.specs.declared.cmp.Ordering.{Ordering}
use Rattle.std.specs.declared.cmp.Ordering.TheVariants.{Less, Equal, Greater}
use denote.Struct.Record.{values_one}
use native.Mathlib.Decide.{ℕ_discrete, dec_le}
use Rattle.c_types.specs.declared.ctype.CType.{CType}
use Rattle.c_types.specs.declared.ctype.CType.TheVariants.{Pointer, ArrayOf, Function}
use Rattle.c_types.specs.declared.ctype.Array.{Array}
use Rattle.c_types.specs.declared.ctype.ElementCount.{ElementCount}
use Rattle.c_types.specs.declared.ctype.Extent.{Extent}
use Rattle.c_types.specs.declared.ctype.Part.{Part}
use Rattle.c_types.specs.declared.qualifier_set.Qualifiers.{Qualifiers}
use Rattle.c_types.specs.declared.derivation.Derivation.{Derivation}
use Rattle.c_types.specs.declared.derivation.Derivation.TheVariants.{Pointer as PointerTo, Array as ArrayOfSo, Function as FunctionOf}
use Rattle.c_types.specs.declared.entry.Entry.{Entry}
use Rattle.c_types.specs.declared.entry.Entry.TheVariants.{OfType, Parameters}
use Rattle.c_types.specs.contracts.ctype.Extent as ExtentType
use Rattle.c_types.specs.contracts.entry.EntryOrd.TheImpl as EntryOrder
use Rattle.c_types.specs.contracts.entry.EntryOrd.TheImpl.Laws as EntryLaws
use Rattle.c_types.specs.Declarators.{type_of_entry, Keeps}
use Rattle.c_types.specs.Tables.{is_derived, IsNumbered}
use Rattle.c_types.specs.Extents.{is_align}
use Rattle.c_types.specs.Sizes.{room_of, room_in}
use Rattle.c_types.specs.Extensions.{Table, same_entry, place_of, placed, with_entry, part_with, with_type, extent_if, extent_of, extent_in, or_void, type_of_part, array_of, derived_once, derived_each, list_from, adjusted_as}
use Rattle.std.specs.BTreeMap.{BTreeMap, get}
use Rattle.c_types.proofs.Numberings.{one_number, slice_get-push_before, slice_get-push_at}
use Rattle.std.proofs.lemmas.Option.{slice_get_within}
use Rattle.c_types.proofs.Orders
use Rattle.c_types.proofs.Orders.{array_by_parts}

-- ---- the place of an entry

told_equal : (o : Ordering) → is_eq o ≡ true → o ≡ Equal
told_equal Equal h = refl
told_equal Less h = cc
told_equal Greater h = cc

one_entry : (e f : Entry) → same_entry e f ≡ true → e ≡ f
one_entry e f h = Orders.same_entry e f (told_equal ((EntryOrder.ghosts).cmp e f) h)

itself : (e : Entry) → same_entry e e ≡ true
itself e = (eq_by_cmp_equiv EntryLaws.total-law).refl e

pub place_none : (n : ℕ) (e : Entry) (t : Table) → ((m : ℕ) → slice_get t m ≡ Some e → ⊥) → place_of n e t ≡ None
place_none n e [] never = refl
place_none n e (f ∷ t) never = by (same_entry e f) refl (place_none (suc n) e t (λ m h. never (suc m) h)) where
  by : (b : Bool) → same_entry e f ≡ b → place_of (suc n) e t ≡ None → (if b then Some n else place_of (suc n) e t) ≡ None
  by true s later = absurd (never 0 (ap Some (sym (one_entry e f s))))
  by false s later = later

some_value : (x y : Entry) → Some x ≡ Some y → x ≡ y
some_value x y h = cc

pub place_some : (n : ℕ) (e : Entry) (t : Table) (m : ℕ) → slice_get t m ≡ Some e → ((k : ℕ) → slice_get t k ≡ Some e → k ≡ m) → place_of n e t ≡ Some (n + m)
place_some n e [] m h once = cc
place_some n e (f ∷ t) zero h once = by (same_entry e f) refl where
  by : (b : Bool) → same_entry e f ≡ b → (if b then Some n else place_of (suc n) e t) ≡ Some (n + 0)
  by true s = ap Some (omega arith)
  by false s =
      let same : f ≡ e = some_value f e h in
      let clash : true ≡ false = sym (itself e) ∙ sym (ap (same_entry e) same) ∙ s in
      cc
place_some n e (f ∷ t) (suc m) h once = by (same_entry e f) refl (place_some (suc n) e t m h (λ k at. lower k (once (suc k) at))) where
  lower : (k : ℕ) → suc k ≡ suc m → k ≡ m
  lower k same = omega (arith, same)

  by : (b : Bool) → same_entry e f ≡ b → place_of (suc n) e t ≡ Some (suc n + m) → (if b then Some n else place_of (suc n) e t) ≡ Some (n + suc m)
  by true s later =
      let clash : 0 ≡ suc m = once 0 (ap Some (sym (one_entry e f s))) in
      absurd (omega (arith, clash))
  by false s later = later ∙ ap Some (omega arith)

-- the place is behind so many entries, and the entry is there
place_found : (n : ℕ) (e : Entry) (t : Table) (m : ℕ) → place_of n e t ≡ Some m → (n ≤ m) × (slice_get t (m - n) ≡ Some e)
place_found n e [] m h = cc
place_found n e (f ∷ t) m h = by (same_entry e f) refl (place_found (suc n) e t m) h where
  by :
      (b : Bool) → same_entry e f ≡ b → (place_of (suc n) e t ≡ Some m → (suc n ≤ m) × (slice_get t (m - suc n) ≡ Some e))
      → (if b then Some n else place_of (suc n) e t) ≡ Some m → (n ≤ m) × (slice_get (f ∷ t) (m - n) ≡ Some e)
  by true s later p =
      let same : n ≡ m = cc in
      let first : 0 ≡ m - n = omega (arith, same) in
      (omega (arith, same), subst (λ (k : ℕ). slice_get (f ∷ t) k ≡ Some e) first (ap Some (sym (one_entry e f s))))
  by false s later p =
      let found = later p in
      let next : suc (m - suc n) ≡ m - n = omega (arith, found.0) in
      (omega (arith, found.0), subst (λ (k : ℕ). slice_get (f ∷ t) k ≡ Some e) next found.1)

-- an entry that is taken is there, and what was there stays
pub entry_taken : (t : Table) (e : Entry) → slice_get (with_entry t e).0 (with_entry t e).1 ≡ Some e
entry_taken t e = by (place_of 0 e t) refl where
  by : (o : Option ℕ) → place_of 0 e t ≡ o → slice_get (placed t e o).0 (placed t e o).1 ≡ Some e
  by None h = slice_get-push_at t e
  by (Some m) h =
      let same : m - 0 ≡ m = omega arith in
      subst (λ (k : ℕ). slice_get t k ≡ Some e) same (place_found 0 e t m h).1

pub entry_keeps : (t : Table) (e : Entry) → Keeps t (with_entry t e).0
entry_keeps t e = by (place_of 0 e t) where
  by : (o : Option ℕ) → Keeps t (placed t e o).0
  by None = λ n x h. slice_get-push_before t e n (slice_get_within t n x h) ∙ h
  by (Some m) = λ n x h. h

-- an entry that stands once is taken
pub entry_known : (t : Table) (e : Entry) (n : ℕ) → slice_get t n ≡ Some e → ((k : ℕ) → slice_get t k ≡ Some e → k ≡ n) → with_entry t e ≡ (t, n)
entry_known t e n h once = ap (placed t e) (place_some 0 e t n h once ∙ ap Some (omega arith))

-- an entry that doesn't stand there is new
pub entry_new : (t : Table) (e : Entry) → ((m : ℕ) → slice_get t m ≡ Some e → ⊥) → with_entry t e ≡ (t ++ e ∷ [], length t)
entry_new t e never = ap (placed t e) (place_none 0 e t never)

module _ (t : Table) (numbers : BTreeMap Entry ℕ) (ok : IsNumbered t numbers) (e : Entry) (self : Table) (view : t ≡ self) where
  known_entry : (n : ℕ) → get (EntryOrder.ghosts).cmp numbers e ≡ Some n → with_entry self e ≡ (self, n)
  known_entry n h =
      let at = ok.found e n h in
      subst (λ (x : Table). with_entry x e ≡ (x, n)) view (entry_known t e n at (λ k there. one_number t numbers ok e k n there at))

  pub known_number : (n : ℕ) → get (EntryOrder.ghosts).cmp numbers e ≡ Some n → n ≡ (with_entry self e).1
  known_number n h = ap (λ (x : Table × ℕ). x.1) (sym (known_entry n h))

  pub known_table : (n : ℕ) → get (EntryOrder.ghosts).cmp numbers e ≡ Some n → self ≡ (with_entry self e).0
  known_table n h = ap (λ (x : Table × ℕ). x.0) (sym (known_entry n h))

  never : IsTrue (is_derived e) → get (EntryOrder.ghosts).cmp numbers e ≡ None → (m : ℕ) → slice_get t m ≡ Some e → ⊥
  never derived absent m at = let known = ok.known e m at derived in cc

  new_entry : IsTrue (is_derived e) → get (EntryOrder.ghosts).cmp numbers e ≡ None → with_entry self e ≡ (t ++ e ∷ [], length t)
  new_entry derived absent = ap (λ (x : Table). with_entry x e) (sym view) ∙ entry_new t e (never derived absent)

  pub new_number : (n : ℕ) → n ≡ length t → IsTrue (is_derived e) → get (EntryOrder.ghosts).cmp numbers e ≡ None → n ≡ (with_entry self e).1
  new_number n size derived absent = size ∙ ap (λ (x : Table × ℕ). x.1) (sym (new_entry derived absent))

  pub new_table : (more : Table) → more ≡ t ++ e ∷ [] → IsTrue (is_derived e) → get (EntryOrder.ghosts).cmp numbers e ≡ None → more ≡ (with_entry self e).0
  new_table more pushed derived absent = pushed ∙ ap (λ (x : Table × ℕ). x.0) (sym (new_entry derived absent))

-- ---- extents

extent_there : (e : Extent) (p : Dec (1 ≤ e.size)) (q : Dec (e.size ≤ 131072)) (b : Bool) (f : IsTrue b → IsTrue (is_align e.align)) (w : Dec (e.size % e.align ≡ 0))
    → is_align e.align ≡ b → extent_if e.size e.align p q b f w ≡ Some e
extent_there e (yes p) (yes q) true f (yes w) s =
    let made : Extent = record { size = e.size; align = e.align; sound = record { some = p; bounded = q; of_a_scalar = f refl; whole = w } } in
    ap Some (values_one ExtentType.struct ExtentType.the_propositions made e refl)
extent_there e (no p) q b f w s = absurd (p e.sound.some)
extent_there e (yes p) (no q) b f w s = absurd (q e.sound.bounded)
extent_there e (yes p) (yes q) false f w s = let clash : true ≡ false = sym e.sound.of_a_scalar ∙ s in cc
extent_there e (yes p) (yes q) true f (no w) s = absurd (w e.sound.whole)

-- an extent is the one of its size and alignment
pub extent_known : (e : Extent) → extent_of e.size e.align ≡ Some e
extent_known e = extent_there e (dec_le 1 e.size) (dec_le e.size 131072) (is_align e.align) (λ h. h) (ℕ_discrete (e.size % e.align) 0) refl

-- ---- one derivation

type_known : (t : Table) (of : Part) (ty : CType) → Some ty ≡ type_of_entry (slice_get t of.number) → type_of_part t of ≡ ty
type_known t of ty h = ap or_void (sym h)

module _ (t : Table) (of : Part) (d : Derivation) (made : CType × Qualifiers) where
  pub once_pointer : (q : Qualifiers) → d ≡ PointerTo q → made ≡ (Pointer of, q) → derived_once t of d ≡ part_with made.1.0 (with_entry t (OfType made.0))
  once_pointer q d-is made-is = ap (derived_once t of) d-is ∙ ap (λ (m : CType × Qualifiers). part_with m.1.0 (with_entry t (OfType m.0))) (sym made-is)

  pub once_function : (parameters : ℕ) (more : Bool) (q : Qualifiers) → d ≡ FunctionOf parameters more → made ≡ (Function (record { result = of.number; parameters = parameters; more = more }), q) → q.0 ≡ 0
      → derived_once t of d ≡ part_with made.1.0 (with_entry t (OfType made.0))
  once_function parameters more q d-is made-is plain =
      ap (derived_once t of) d-is ∙ ap (λ n. part_with n (with_entry t (OfType (Function (record { result = of.number; parameters = parameters; more = more }))))) (sym plain)
      ∙ ap (λ (m : CType × Qualifiers). part_with m.1.0 (with_entry t (OfType m.0))) (sym made-is)

  pub once_array : (ty : CType) (count : ElementCount) (e : Extent) (a : Array) (q : Qualifiers) → d ≡ ArrayOfSo count → made ≡ (ArrayOf a, q) → q.0 ≡ 0
      → Some ty ≡ type_of_entry (slice_get t of.number) → room_in (Ok e) ≡ room_of ty → a.element ≡ of → a.extent ≡ e → a.count ≡ count.value
      → derived_once t of d ≡ part_with made.1.0 (with_entry t (OfType made.0))
  once_array ty count e a q d-is made-is plain there room element extent counted =
      let told : extent_in (room_of (type_of_part t of)) ≡ Some e = ap (λ (x : CType). extent_in (room_of x)) (type_known t of ty there) ∙ ap extent_in (sym room) ∙ extent_known e in
      let b : Array = record { element = of; extent = e; count = count.value; some = count.some } in
      let same : b ≡ a = array_by_parts b a (sym element) (ap (λ (x : Extent). x.size) (sym extent)) (ap (λ (x : Extent). x.align) (sym extent)) (sym counted) in
      ap (derived_once t of) d-is ∙ ap (array_of t of count) told ∙ ap (λ (x : Array). with_type t (ArrayOf x)) same
      ∙ ap (λ n. part_with n (with_entry t (OfType (ArrayOf a)))) (sym plain)
      ∙ ap (λ (m : CType × Qualifiers). part_with m.1.0 (with_entry t (OfType m.0))) (sym made-is)

  -- the table and the part that are made
  pub table_once : (new : Table) → derived_once t of d ≡ part_with made.1.0 (with_entry t (OfType made.0)) → new ≡ (with_entry t (OfType made.0)).0 → new ≡ (derived_once t of d).0
  table_once new h g = g ∙ ap (λ (x : Table × Part). x.0) (sym h)

  pub part_once : (n : ℕ) → derived_once t of d ≡ part_with made.1.0 (with_entry t (OfType made.0)) → n ≡ (with_entry t (OfType made.0)).1 → record { number = n; qualifiers = made.1 } ≡ (derived_once t of d).1
  part_once n h g =
      ap (λ (k : ℕ). let p : Part = record { number = k; qualifiers = made.1 } in p) g ∙ ap (λ (x : Table × Part). x.1) (sym h)

-- ---- one derivation after the other

pub each_next : (t new : Table) (of next : Part) (d : Derivation) (ds : List Derivation) → new ≡ (derived_once t of d).0 → next ≡ (derived_once t of d).1 → derived_each t of (d ∷ ds) ≡ derived_each new next ds
each_next t new of next d ds p q =
    ap (λ (x : Table). derived_each x (derived_once t of d).1 ds) (sym p) ∙ ap (λ (x : Part). derived_each new x ds) (sym q)

-- ---- lists of parameters

pub list_next : (first t new : Table) (list other ty : ℕ) (ns : List ℕ) → t ≡ (list_from first ns).0 → list ≡ (list_from first ns).1 → new ≡ (with_entry t (Parameters ty list)).0 → other ≡ (with_entry t (Parameters ty list)).1
    → (new ≡ (list_from first (ty ∷ ns)).0) × (other ≡ (list_from first (ty ∷ ns)).1)
list_next first t new list other ty ns p q r s =
    let same : with_entry t (Parameters ty list) ≡ list_from first (ty ∷ ns) =
    ap (λ (x : Table). with_entry x (Parameters ty list)) p ∙ ap (λ n. with_entry (list_from first ns).0 (Parameters ty n)) q in
    (r ∙ ap (λ (x : Table × ℕ). x.0) same, s ∙ ap (λ (x : Table × ℕ). x.1) same)

-- ---- parameters

pub adjusted_known : (t : Table) (p : Part) (ty : CType) → Some ty ≡ type_of_entry (slice_get t p.number) → adjusted_as t p ty ≡ adjusted_as t p (type_of_part t p)
adjusted_known t p ty h = ap (adjusted_as t p) (sym (type_known t p ty h))
