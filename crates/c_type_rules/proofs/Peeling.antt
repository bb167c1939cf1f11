-- An array's elements, down to the innermost: the arrays that are taken off make it of them again.
use Rattle.std.proofs.Common.{◌≡◌, ℕ, ◌*◌, ◌<◌, ◌≤◌, cond, List, [], ◌∷◌, ◌++◌, reverse, All, Option, Some, None, Ok, Err, refl, sym, ap, ◌∙◌, subst}
use Rattle.std.specs.Prelude.{slice_get}
use Rattle.std.proofs.lemmas.List.{reverse-append}
use Rattle.std.proofs.lemmas.List.Elements.{All-cons, All-nil, All-weaker}
use Rattle.std.proofs.lemmas.Bool.{le-ltb}
use Rattle.c_types.specs.declared.ctype.CType.{CType}
use Rattle.c_types.specs.declared.ctype.CType.TheVariants.{Void, Integer, Enumeration, Pointer, ArrayOf, Function, Structure, Union}
use Rattle.c_types.specs.declared.ctype.TypeFault.TheVariants.{TooLarge}
use Rattle.c_types.specs.declared.ctype.Array.{Array}
use Rattle.c_types.specs.declared.ctype.ElementCount.{ElementCount}
use Rattle.c_types.specs.declared.ctype.Part.{Part}
use Rattle.c_types.specs.declared.derivation.Derivation.{Derivation}
use Rattle.c_types.specs.declared.derivation.Derivation.TheVariants.{Pointer as PointerTo, Array as ArrayOfSo, OpenArray, BadArray, Function as FunctionOf, BadFunction}
use Rattle.c_types.specs.declared.entry.Entry.{Entry}
use Rattle.c_types.specs.declared.entry.Entry.TheVariants.{OfType, NoParameters, Parameters}
use Rattle.c_types.specs.declared.qualifier_set.Qualifiers.{Qualifiers}
use Rattle.c_types.specs.Derivations.{Shape, shape_after, rule_of, rule_of_elements, known_room_of_elements, lowest_rule}
use Rattle.c_types.specs.Declarators.{type_of_entry, type_in, shape_at, Keeps, Makes, IsDerived}
use Rattle.c_types.specs.Whole.{IsPartOf, IsPart, DerivationFits, EntryFits, IsWhole}
use Rattle.c_types.proofs.Deriving.{Makes-shape, IsDerived-keeps}
use Rattle.c_type_rules.specs.Qualified.{IsArray, IsElement, element_with, IsQualified}

pub record IsPeeling (t : List Entry) (part element : Part) (arrays : List Derivation) : Type 0 where
  pub there : IsPart t element
  pub only_arrays : All IsArray (reverse arrays)
  pub of_it : IsDerived t element (reverse arrays) part
  pub fine : lowest_rule (shape_at t element.number) None (reverse arrays) ≡ None

pub peeling_starts : (t : List Entry) (part : Part) → IsPart t part → IsPeeling t part part []
unfolding IsDerived lowest_rule
peeling_starts t part h = record { there = h; only_arrays = All-nil IsArray; of_it = refl; fine = refl }

pub entry_of : (o : Option Entry) (ty : CType) → type_of_entry o ≡ Some ty → o ≡ Some (OfType ty)
entry_of None ty h = cc
entry_of (Some (OfType x)) ty h = let same : x ≡ ty = cc in ap (λ (y : CType). Some (OfType y)) same
entry_of (Some NoParameters) ty h = cc
entry_of (Some (Parameters a b)) ty h = cc

-- the number of an array's element is below its own
pub falls : (t : List Entry) (n : ℕ) (a : Array) → IsWhole t → type_in t n ≡ Some (ArrayOf a) → a.element.number < n
falls t n a whole h = whole.order n (OfType (ArrayOf a)) (entry_of (slice_get t n) (ArrayOf a) h)

-- elements that lie within the limit together break no rule
no_rule : (s : Shape) (count : ElementCount) (size align : ℕ) → s.room ≡ Some (Ok (record { size = size; align = align })) → count.value * size ≤ 131072 → rule_of s (ArrayOfSo count) ≡ None
no_rule s count size align room within =
    ap (λ o. rule_of_elements (known_room_of_elements count.value o)) room
    ∙ ap (λ b. rule_of_elements (Some (cond b (Err TooLarge) (Ok (record { size = count.value * size; align = align }))))) (le-ltb 131072 (count.value * size) within)

module _ (t : List Entry) (part element : Part) (arrays : List Derivation) (a : Array) (count : ElementCount) (ok : IsPeeling t part element arrays) (is : type_in t element.number ≡ Some (ArrayOf a)) (fits : EntryFits t (OfType (ArrayOf a))) (counted : count.value ≡ a.count) where
  entry : slice_get t element.number ≡ Some (OfType (ArrayOf a))
  entry = entry_of (slice_get t element.number) (ArrayOf a) is

  plain : element.qualifiers.0 ≡ 0
  plain = subst (λ (o : Option Entry). IsPartOf o element.qualifiers.0) entry ok.there

  makes : Makes t a.element (ArrayOfSo count) element
  makes = (a, (entry, plain), refl, sym counted, fits.1.0)

  turned : reverse (arrays ++ ArrayOfSo count ∷ []) ≡ ArrayOfSo count ∷ reverse arrays
  turned = reverse-append arrays (ArrayOfSo count ∷ [])

  fine_before : lowest_rule (shape_at t a.element.number) None (ArrayOfSo count ∷ reverse arrays) ≡ None
  unfolding lowest_rule
  fine_before =
      ap (λ r. lowest_rule (shape_after (shape_at t a.element.number) (ArrayOfSo count)) r (reverse arrays))
      (no_rule (shape_at t a.element.number) count a.extent.size a.extent.align fits.1.0 (subst (λ n. n * a.extent.size ≤ 131072) (sym counted) fits.1.1))
      ∙ ap (λ s. lowest_rule s None (reverse arrays)) (sym (Makes-shape t a.element (ArrayOfSo count) element makes)) ∙ ok.fine

  derived : IsDerived t a.element (ArrayOfSo count ∷ reverse arrays) part
  unfolding IsDerived
  derived = (element, makes, ok.of_it)

  pub peeling_step : IsPeeling t part a.element (arrays ++ ArrayOfSo count ∷ [])
  peeling_step = record {
    there = fits.0;
    only_arrays = subst (All IsArray) (sym turned) (All-cons IsArray (ArrayOfSo count) (reverse arrays) tt ok.only_arrays);
    of_it = subst (λ ds. IsDerived t a.element ds part) (sym turned) derived;
    fine = ap (lowest_rule (shape_at t a.element.number) None) turned ∙ fine_before;
  }

-- ---- the element with the qualifiers

with_number : (o : Option CType) (p : Part) (set : Qualifiers) → (element_with o p set).number ≡ p.number
with_number None p set = refl
with_number (Some Void) p set = refl
with_number (Some (Integer kind)) p set = refl
with_number (Some (Enumeration tag)) p set = refl
with_number (Some (Pointer to)) p set = refl
with_number (Some (ArrayOf a)) p set = refl
with_number (Some (Function f)) p set = refl
with_number (Some (Structure tag x)) p set = refl
with_number (Some (Union tag x)) p set = refl

pub element_number : (t : List Entry) (p : Part) (set : Qualifiers) → (element_with (type_in t p.number) p set).number ≡ p.number
element_number t p set = with_number (type_in t p.number) p set

still_part : (o : Option Entry) (p : Part) (set : Qualifiers) → IsPartOf o p.qualifiers.0 → IsPartOf o (element_with (type_of_entry o) p set).qualifiers.0
still_part None p set h = absurd h
still_part (Some NoParameters) p set h = absurd h
still_part (Some (Parameters a b)) p set h = absurd h
still_part (Some (OfType Void)) p set h = tt
still_part (Some (OfType (Integer kind))) p set h = tt
still_part (Some (OfType (Enumeration tag))) p set h = tt
still_part (Some (OfType (Pointer to))) p set h = tt
still_part (Some (OfType (ArrayOf a))) p set h = h
still_part (Some (OfType (Function f))) p set h = h
still_part (Some (OfType (Structure tag x))) p set h = tt
still_part (Some (OfType (Union tag x))) p set h = tt

pub element_is_part : (t : List Entry) (p : Part) (set : Qualifiers) → IsPart t p → IsPart t (element_with (type_in t p.number) p set)
element_is_part t p set h =
    subst (λ n. IsPartOf (slice_get t n) (element_with (type_in t p.number) p set).qualifiers.0) (sym (element_number t p set))
    (still_part (slice_get t p.number) p set h)

-- arrays name no list of parameters
array_fits : (t : List Entry) (d : Derivation) → IsArray d → DerivationFits t d
array_fits t (PointerTo q) h = absurd h
array_fits t (ArrayOfSo count) h = tt
array_fits t OpenArray h = absurd h
array_fits t BadArray h = absurd h
array_fits t (FunctionOf ps more) h = absurd h
array_fits t (BadFunction broken) h = absurd h

arrays_fit : (t : List Entry) (ds : List Derivation) → All IsArray ds → All (DerivationFits t) ds
arrays_fit t ds h = All-weaker IsArray (DerivationFits t) (array_fits t) ds h

-- ---- the arrays are made again

-- a part of the first table has one type in both
same_type : (o p : Option Entry) (set : ℕ) → IsPartOf o set → ((e : Entry) → o ≡ Some e → p ≡ Some e) → type_of_entry p ≡ type_of_entry o
same_type None p set h k = absurd h
same_type (Some e) p set h k = ap type_of_entry (k e refl)

pub one_type : (t new : List Entry) (p : Part) → Keeps t new → IsPart t p → type_in new p.number ≡ type_in t p.number
one_type t new p k h = same_type (slice_get t p.number) (slice_get new p.number) p.qualifiers.0 h (λ e at. k p.number e at)

module _ (t : List Entry) (part element base : Part) (arrays ds : List Derivation) (set : Qualifiers) (ok : IsPeeling t part element arrays) (turned_is : ds ≡ reverse arrays) (base_is : base ≡ element_with (type_in t element.number) element set) where
  pub base_part : IsPart t base
  base_part = subst (IsPart t) (sym base_is) (element_is_part t element set ok.there)

  pub lists_fit : All (DerivationFits t) ds
  lists_fit = arrays_fit t ds (subst (All IsArray) (sym turned_is) ok.only_arrays)

  number : base.number ≡ element.number
  number = ap (λ (p : Part). p.number) base_is ∙ element_number t element set

  pub none_broken : lowest_rule (shape_at t base.number) None ds ≡ None
  none_broken =
      ap (λ n. lowest_rule (shape_at t n) None ds) number
      ∙ ap (lowest_rule (shape_at t element.number) None) turned_is
      ∙ ok.fine

  pub qualified : (new : List Entry) (made : Part) → IsElement (type_in t element.number) → Keeps t new → IsDerived new base ds made → IsQualified new part set made
  qualified new made no_array k h =
      let same : type_in new element.number ≡ type_in t element.number = one_type t new element k ok.there in
      record {
        element = element;
        arrays = ds;
        only_arrays = subst (All IsArray) (sym turned_is) ok.only_arrays;
        no_array = subst IsElement (sym same) no_array;
        of_it = subst (λ xs. IsDerived new element xs part) (sym turned_is) (IsDerived-keeps t new element (reverse arrays) part k ok.of_it);
        made_so = subst (λ (b : Part). IsDerived new b ds made) (base_is ∙ ap (λ (ty : Option CType). element_with ty element set) (sym same)) h;
      }
