-- What a table knows, as tests: each holds of what is of the table, and of nothing else.
use Rattle.std.proofs.Common.{◌≡◌, ℕ, Bool, true, ◌&&◌, cond, List, [], ◌∷◌, Option, Some, None, All, refl, ap, ◌∙◌, is_none, eq-eqb}
use Rattle.std.specs.List.{list_all}
use Rattle.std.specs.Prelude.{slice_get, IsSomeAnd}
use Rattle.std.proofs.lemmas.List.Elements.{All-head, All-tail}
use Rattle.c_types.specs.declared.ctype.CType.TheVariants.{Void, Integer, Enumeration, Pointer, ArrayOf, Function, Structure, Union}
use Rattle.c_types.specs.declared.ctype.Part.{Part}
use Rattle.c_types.specs.declared.derivation.Derivation.{Derivation}
use Rattle.c_types.specs.declared.derivation.Derivation.TheVariants.{Pointer as PointerTo, Array as ArrayOfSo, OpenArray, BadArray, Function as FunctionOf, BadFunction}
use Rattle.c_types.specs.declared.entry.Entry.{Entry}
use Rattle.c_types.specs.declared.entry.Entry.TheVariants.{OfType, NoParameters, Parameters}
use Rattle.c_types.specs.Declarators.{IsTypeEntry, shape_at}
use Rattle.c_types.specs.Derivations.{lowest_rule}
use Rattle.c_types.specs.Whole.{IsListEntry, IsTypeAt, IsPartOf, IsPart, DerivationFits}
use Rattle.c_types.specs.Extensions.{Table, is_part_of, is_part, is_type_entry, is_list_entry, knows_list, type_of_part, may_derive, derived, derived_each, parameter_list, list_from, adjusted, adjusted_as}

part_of : (o : Option Entry) (set : ℕ) → IsPartOf o set → is_part_of o set ≡ true
part_of None set h = absurd h
part_of (Some NoParameters) set h = absurd h
part_of (Some (Parameters a b)) set h = absurd h
part_of (Some (OfType Void)) set h = refl
part_of (Some (OfType (Integer kind))) set h = refl
part_of (Some (OfType (Enumeration tag))) set h = refl
part_of (Some (OfType (Pointer to))) set h = refl
part_of (Some (OfType (ArrayOf a))) set h = eq-eqb set 0 h
part_of (Some (OfType (Function f))) set h = eq-eqb set 0 h
part_of (Some (OfType (Structure tag x))) set h = refl
part_of (Some (OfType (Union tag x))) set h = refl

pub part_known : (t : Table) (p : Part) → IsPart t p → is_part t p ≡ true
part_known t p h = part_of (slice_get t p.number) p.qualifiers.0 h

type_of : (o : Option Entry) → IsSomeAnd o IsTypeEntry → is_type_entry o ≡ true
type_of None h = absurd h
type_of (Some (OfType ty)) h = refl
type_of (Some NoParameters) h = absurd h
type_of (Some (Parameters a b)) h = absurd h

list_of : (o : Option Entry) → IsSomeAnd o IsListEntry → is_list_entry o ≡ true
list_of None h = absurd h
list_of (Some (OfType ty)) h = absurd h
list_of (Some NoParameters) h = refl
list_of (Some (Parameters a b)) h = refl

fits : (t : Table) (d : Derivation) → DerivationFits t d → knows_list t d ≡ true
fits t (PointerTo q) h = refl
fits t (ArrayOfSo count) h = refl
fits t OpenArray h = refl
fits t BadArray h = refl
fits t (FunctionOf ps more) h = list_of (slice_get t ps) h
fits t (BadFunction broken) h = refl

all_hold : {A : Type 0} (P : A → Type 0) (p : A → Bool) → ((x : A) → P x → p x ≡ true) → (xs : List A) → All P xs → list_all p xs ≡ true
all_hold P p each [] h = refl
all_hold P p each (x ∷ xs) h = ap (λ b. b && list_all p xs) (each x (All-head P x xs h)) ∙ all_hold P p each xs (All-tail P x xs h)

types_known : (t : Table) (types : List ℕ) → All (IsTypeAt t) types → list_all (λ n. is_type_entry (slice_get t n)) types ≡ true
types_known t types h = all_hold (IsTypeAt t) (λ n. is_type_entry (slice_get t n)) (λ n there. type_of (slice_get t n) there) types h

-- ---- what is of the table is made

pub list_known : (t : Table) (types : List ℕ) → All (IsTypeAt t) types → parameter_list t types ≡ list_from t types
list_known t types h = ap (λ b. list_from t (cond b types [])) (types_known t types h)

pub adjusted_known : (t : Table) (p : Part) → IsPart t p → adjusted t p ≡ adjusted_as t p (type_of_part t p)
adjusted_known t p h = ap (λ b. cond b (adjusted_as t p (type_of_part t p)) (t, p)) (part_known t p h)

pub derived_known : (t : Table) (base : Part) (ds : List Derivation) → IsPart t base → All (DerivationFits t) ds → lowest_rule (shape_at t base.number) None ds ≡ None → derived t base ds ≡ derived_each t base ds
derived_known t base ds h lists fine =
    let may : may_derive t base ds ≡ true =
    ap (λ b. b && (list_all (knows_list t) ds && is_none (lowest_rule (shape_at t base.number) None ds))) (part_known t base h)
    ∙ ap (λ b. b && is_none (lowest_rule (shape_at t base.number) None ds)) (all_hold (DerivationFits t) (knows_list t) (fits t) ds lists)
    ∙ ap is_none fine in
    ap (λ b. cond b (derived_each t base ds) (t, base)) may
