-- The arrays that are made again of a qualified element are those that the extension of the table makes.
use Rattle.std.proofs.Common.{◌≡◌, ℕ, zero, suc, ◌<◌, List, [], ◌∷◌, ◌++◌, length, reverse, Option, Some, None, Ok, Result, refl, sym, ap, ◌∙◌, arith}
use Rattle.std.proofs.lemmas.List.{reverse-append}
use Rattle.c_types.specs.declared.ctype.CType.{CType}
use Rattle.c_types.specs.declared.ctype.CType.TheVariants.{Void, Integer, Enumeration, Pointer, ArrayOf, Function, Structure, Union}
use Rattle.c_types.specs.declared.ctype.TypeFault.{TypeFault}
use Rattle.c_types.specs.declared.ctype.Array.{Array}
use Rattle.c_types.specs.declared.ctype.ElementCount.{ElementCount}
use Rattle.c_types.specs.declared.ctype.Part.{Part}
use Rattle.c_types.specs.declared.derivation.Derivation.{Derivation}
use Rattle.c_types.specs.declared.derivation.Derivation.TheVariants.{Array as ArrayOfSo}
use Rattle.c_types.specs.declared.entry.Entry.{Entry}
use Rattle.c_types.specs.declared.entry.Entry.TheVariants.{OfType}
use Rattle.c_types.specs.declared.qualifier_set.Qualifiers.{Qualifiers}
use Rattle.c_types.specs.Sizes.{Room, room_of}
use Rattle.c_types.specs.Declarators.{type_of_entry, type_in, shape_of_any, shape_at}
use Rattle.c_types.specs.Whole.{IsPart, EntryFits}
use Rattle.c_types.specs.Extensions.{Table, with_type, extent_in, or_void, type_of_part, array_of, derived_once, derived_each, qualified_as}
use Rattle.c_types.proofs.Orders.{array_by_parts}
use Rattle.c_types.proofs.Whole.{part_within}
use Rattle.c_types.proofs.Extending.{entry_taken, extent_known}
use Rattle.c_type_rules.specs.Qualified.{IsElement, element_with}

-- what derivations make of what was made
abbrev each_of : Table × Part → List Derivation → Table × Part
each_of made ds = derived_each made.0 made.1 ds

-- a part with further qualifiers, through so many arrays
abbrev by_steps : Table → Part → (set steps : ℕ) → Table × Part
by_steps t p set steps = qualified_as steps t p set (type_of_part t p)

-- the whole is what the arrays that were taken off make of the element
pub record IsUnrolled (t : Table) (part element : Part) (arrays : List Derivation) (set : ℕ) : Type 0 where
  pub steps : ℕ
  pub enough : element.number < steps
  pub same : by_steps t part set (length t) ≡ each_of (by_steps t element set steps) (reverse arrays)

pub unrolled_starts : (t : Table) (part : Part) (set : ℕ) → IsPart t part → IsUnrolled t part part [] set
unrolled_starts t part set h = record { steps = length t; enough = part_within t part h; same = refl }

-- ---- qualifiers change no size

room_as : (t : Table) (p : Part) (set steps : ℕ) → p.number < steps → (ty : CType) → type_of_part t p ≡ ty
    → room_of (type_of_part (qualified_as steps t p set ty).0 (qualified_as steps t p set ty).1) ≡ room_of ty
room_as t p set zero less ty h = absurd (omega arith)
room_as t p set (suc steps) less Void h = ap room_of h
room_as t p set (suc steps) less (Integer kind) h = ap room_of h
room_as t p set (suc steps) less (Enumeration tag) h = ap room_of h
room_as t p set (suc steps) less (Pointer to) h = ap room_of h
room_as t p set (suc steps) less (ArrayOf a) h =
    let made = by_steps t a.element set steps in
    ap (λ (o : Option Entry). room_of (or_void (type_of_entry o))) (entry_taken made.0 (OfType (ArrayOf (record a { element = made.1 }))))
room_as t p set (suc steps) less (Function f) h = ap room_of h
room_as t p set (suc steps) less (Structure tag x) h = ap room_of h
room_as t p set (suc steps) less (Union tag x) h = ap room_of h

-- the room of a type of a known shape
room_known : (o : Option CType) (r : Room) → (shape_of_any o).room ≡ Some (Ok r) → room_of (or_void o) ≡ Ok r
room_known None r h = cc
room_known (Some ty) r h = inside (room_of ty) r h where
  inside : (x : Result Room TypeFault) (r : Room) → Some x ≡ Some (Ok r) → x ≡ Ok r
  inside x r h = cc

-- ---- one array

module _ (t : Table) (a : Array) (set steps : ℕ) (count : ElementCount) (less : a.element.number < steps) (counted : count.value ≡ a.count) where
  made_again :
      (shape_at t a.element.number).room ≡ Some (Ok (record { size = a.extent.size; align = a.extent.align }))
      → derived_once (by_steps t a.element set steps).0 (by_steps t a.element set steps).1 (ArrayOfSo count)
      ≡ with_type (by_steps t a.element set steps).0 (ArrayOf (record a { element = (by_steps t a.element set steps).1 }))
  made_again room =
      let made = by_steps t a.element set steps in
      let b : Array = record { element = made.1; extent = a.extent; count = count.value; some = count.some } in
      let c : Array = record a { element = made.1 } in
      ap (λ (r : Result Room TypeFault). array_of made.0 made.1 count (extent_in r)) (room_as t a.element set steps less (type_of_part t a.element) refl ∙ room_known (type_in t a.element.number) _ room)
      ∙ ap (array_of made.0 made.1 count) (extent_known a.extent)
      ∙ ap (λ (x : Array). with_type made.0 (ArrayOf x)) (array_by_parts b c refl refl refl counted)

module _ (t : Table) (part element : Part) (arrays : List Derivation) (a : Array) (count : ElementCount) (set : ℕ) (is : type_in t element.number ≡ Some (ArrayOf a)) (fits : EntryFits t (OfType (ArrayOf a))) (counted : count.value ≡ a.count) (falls : a.element.number < element.number) where
  step_by : (steps : ℕ) → element.number < steps → by_steps t part set (length t) ≡ each_of (by_steps t element set steps) (reverse arrays) → IsUnrolled t part a.element (arrays ++ ArrayOfSo count ∷ []) set
  step_by zero enough same = absurd (omega arith)
  step_by (suc steps) enough same =
      let less : a.element.number < steps = omega arith in
      let made = by_steps t a.element set steps in
      let turned : reverse (arrays ++ ArrayOfSo count ∷ []) ≡ ArrayOfSo count ∷ reverse arrays = reverse-append arrays (ArrayOfSo count ∷ []) in
      let one : by_steps t element set (suc steps) ≡ derived_once made.0 made.1 (ArrayOfSo count) =
      ap (λ (o : Option CType). qualified_as (suc steps) t element set (or_void o)) is ∙ sym (made_again t a set steps count less counted fits.1.0) in
      record {
        steps = steps;
        enough = less;
        same = same ∙ ap (λ (x : Table × Part). each_of x (reverse arrays)) one ∙ ap (each_of made) (sym turned);
      }

  pub unrolled_step : IsUnrolled t part element arrays set → IsUnrolled t part a.element (arrays ++ ArrayOfSo count ∷ []) set
  unrolled_step ok = step_by ok.steps ok.enough ok.same

-- ---- the innermost element

ends_by : (t : Table) (element : Part) (set : Qualifiers) (steps : ℕ) → element.number < steps → (o : Option CType) → IsElement o → qualified_as steps t element set.0 (or_void o) ≡ (t, element_with o element set)
ends_by t element set zero enough o h = absurd (omega arith)
ends_by t element set (suc steps) enough None h = absurd h
ends_by t element set (suc steps) enough (Some Void) h = refl
ends_by t element set (suc steps) enough (Some (Integer kind)) h = refl
ends_by t element set (suc steps) enough (Some (Enumeration tag)) h = refl
ends_by t element set (suc steps) enough (Some (Pointer to)) h = refl
ends_by t element set (suc steps) enough (Some (ArrayOf a)) h = absurd h
ends_by t element set (suc steps) enough (Some (Function f)) h = refl
ends_by t element set (suc steps) enough (Some (Structure tag x)) h = refl
ends_by t element set (suc steps) enough (Some (Union tag x)) h = refl

module _ (t : Table) (part element base : Part) (arrays ds : List Derivation) (set : Qualifiers) (ok : IsUnrolled t part element arrays set.0) (turned_is : ds ≡ reverse arrays) (base_is : base ≡ element_with (type_in t element.number) element set) (no_array : IsElement (type_in t element.number)) where
  whole : by_steps t part set.0 (length t) ≡ derived_each t base ds
  whole =
      ok.same ∙ ap (λ (x : Table × Part). each_of x (reverse arrays)) (ends_by t element set ok.steps ok.enough (type_in t element.number) no_array)
      ∙ ap (λ (b : Part). derived_each t b (reverse arrays)) (sym base_is) ∙ ap (derived_each t base) (sym turned_is)

  pub unrolled_table : (new : Table) → new ≡ (derived_each t base ds).0 → new ≡ (qualified_as (length t) t part set.0 (type_of_part t part)).0
  unrolled_table new h = h ∙ ap (λ (x : Table × Part). x.0) (sym whole)

  pub unrolled_part : (made : Part) → made ≡ (derived_each t base ds).1 → made ≡ (qualified_as (length t) t part set.0 (type_of_part t part)).1
  unrolled_part made h = h ∙ ap (λ (x : Table × Part). x.1) (sym whole)
