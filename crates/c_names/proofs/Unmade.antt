-- What isn't of a table makes nothing.
use Rattle.std.proofs.Common.{◌≡◌, ℕ, Bool, true, false, ◌&&◌, cond, List, [], ◌∷◌, Option, Some, None, All, refl, sym, ap, ◌∙◌, is_none, eqb-true}
use Rattle.std.specs.List.{list_all}
use Rattle.std.proofs.lemmas.List.Elements.{All-cons, All-nil}
use Rattle.std.specs.Prelude.{length, slice_get, IsSomeAnd, is_some}
use Rattle.c_types.specs.declared.ctype.CType.TheVariants.{Void, Integer, Enumeration, Pointer, ArrayOf, Function, Structure, Union}
use Rattle.c_types.specs.declared.ctype.Part.{Part}
use Rattle.c_types.specs.declared.derivation.Derivation.{Derivation}
use Rattle.c_types.specs.declared.derivation.Derivation.TheVariants.{Pointer as PointerTo, Array as ArrayOfSo, OpenArray, BadArray, Function as FunctionOf, BadFunction}
use Rattle.c_types.specs.declared.entry.Entry.{Entry}
use Rattle.c_types.specs.declared.entry.Entry.TheVariants.{OfType, NoParameters, Parameters}
use Rattle.c_types.specs.declared.rule.TypeRule.{TypeRule}
use Rattle.c_types.specs.Declarators.{IsTypeEntry, shape_at}
use Rattle.c_types.specs.Derivations.{lowest_rule}
use Rattle.c_types.specs.Whole.{IsListEntry, IsTypeAt, IsPartOf, IsPart, DerivationFits}
use Rattle.c_types.proofs.Guards.{part_known}
use Rattle.c_types.specs.Extensions.{Table, is_part_of, is_part, is_type_entry, is_list_entry, knows_list, type_of_part, may_derive, derived, derived_each, parameter_list, list_from, adjusted, adjusted_as, qualified, qualified_as}

-- ---- what is made of it

pub underived_part : (t : Table) (base : Part) (ds : List Derivation) → is_part t base ≡ false → derived t base ds ≡ (t, base)
underived_part t base ds absent =
    ap (λ b. cond (b && (list_all (knows_list t) ds && is_none (lowest_rule (shape_at t base.number) None ds))) (derived_each t base ds) (t, base)) absent

pub unadjusted : (t : Table) (p : Part) → is_part t p ≡ false → adjusted t p ≡ (t, p)
unadjusted t p absent = ap (λ b. cond b (adjusted_as t p (type_of_part t p)) (t, p)) absent

pub unqualified : (t : Table) (p : Part) (set : ℕ) → is_part t p ≡ false → qualified t p set ≡ (t, p)
unqualified t p set absent = ap (λ b. cond b (qualified_as (length t) t p set (type_of_part t p)) (t, p)) absent

and_false : (a : Bool) → (a && false) ≡ false
and_false true = refl
and_false false = refl

-- a list of which something isn't there
pub underived_lists : (t : Table) (base : Part) (ds : List Derivation) → list_all (knows_list t) ds ≡ false → derived t base ds ≡ (t, base)
underived_lists t base ds absent =
    let rule = is_none (lowest_rule (shape_at t base.number) None ds) in
    ap (λ b. cond (is_part t base && (b && rule)) (derived_each t base ds) (t, base)) absent
    ∙ ap (λ b. cond b (derived_each t base ds) (t, base)) (and_false (is_part t base))

pub underived_rule : (t : Table) (base : Part) (ds : List Derivation) → is_none (lowest_rule (shape_at t base.number) None ds) ≡ false → derived t base ds ≡ (t, base)
underived_rule t base ds broken =
    ap (λ b. cond (is_part t base && (list_all (knows_list t) ds && b)) (derived_each t base ds) (t, base)) broken
    ∙ ap (λ b. cond (is_part t base && b) (derived_each t base ds) (t, base)) (and_false (list_all (knows_list t) ds))
    ∙ ap (λ b. cond b (derived_each t base ds) (t, base)) (and_false (is_part t base))

pub unlisted : (t : Table) (types : List ℕ) → list_all (λ n. is_type_entry (slice_get t n)) types ≡ false → parameter_list t types ≡ list_from t []
unlisted t types absent = ap (λ b. list_from t (cond b types [])) absent

-- ---- what is of it

pub qualified_known : (t : Table) (p : Part) (set : ℕ) → IsPart t p → qualified t p set ≡ qualified_as (length t) t p set (type_of_part t p)
qualified_known t p set h = ap (λ b. cond b (qualified_as (length t) t p set (type_of_part t p)) (t, p)) (part_known t p h)

pub some_not_none : {A : Type 0} (o : Option A) → is_some o ≡ true → is_none o ≡ false
some_not_none (Some x) h = refl
some_not_none None h = cc
