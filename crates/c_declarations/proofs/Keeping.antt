-- What is said of a table stays where the table grows.
use Rattle.std.proofs.Common.{◌≡◌, List, Option, Some, None, Result, refl, sym, ap, subst}
use Rattle.std.specs.Prelude.{slice_get}
use Rattle.c_syntax.specs.declared.expr.Specifier.{Specifier}
use Rattle.c_types.specs.declared.ctype.CType.{CType}
use Rattle.c_types.specs.declared.ctype.Part.{Part}
use Rattle.c_types.specs.declared.derivation.Derivation.{Derivation}
use Rattle.c_types.specs.declared.entry.Entry.{Entry}
use Rattle.c_types.specs.declared.qualifier_set.Qualifiers.{Qualifiers}
use Rattle.c_types.specs.Derivations.{lowest_rule}
use Rattle.c_types.specs.Declarators.{type_of_entry, type_in, shape_at, Keeps, IsDerived}
use Rattle.c_types.specs.Whole.{IsPart}
use Rattle.c_types.proofs.Deriving.{IsDerived-keeps, shape_at-keeps}
use Rattle.c_types.proofs.Whole.{part_is_type}
use Rattle.c_rules.specs.declared.rule.Rule.{Rule}
use Rattle.c_specifiers.specs.declared.list.Standing.{Standing}
use Rattle.c_declarations.specs.declared.specifier_list.Specification.{Specification}
use Rattle.c_declarations.specs.declared.specifier_list.Named.{Named}
use Rattle.c_declarations.specs.declared.specifier_list.Named.TheVariants as named
use Rattle.c_type_rules.specs.Qualified.{IsElement, element_with, IsQualified}
use Rattle.c_declarations.specs.Specified.{named_in_list, set_in_list, IsNamed, IsSpecified}

still_element : (o p : Option Entry) → IsElement (type_of_entry o) → ((e : Entry) → o ≡ Some e → p ≡ Some e) → type_of_entry p ≡ type_of_entry o
still_element None p h k = absurd h
still_element (Some e) p h k = ap type_of_entry (k e refl)

pub IsQualified-keeps : (t t' : List Entry) (p : Part) (set : Qualifiers) (made : Part) → Keeps t t' → IsQualified t p set made → IsQualified t' p set made
IsQualified-keeps t t' p set made k h =
    let e : Part = h.element in
    let same : type_in t' e.number ≡ type_in t e.number = still_element (slice_get t e.number) (slice_get t' e.number) h.no_array (λ x at. k e.number x at) in
    record {
      element = e;
      arrays = h.arrays;
      only_arrays = h.only_arrays;
      no_array = subst IsElement (sym same) h.no_array;
      of_it = IsDerived-keeps t t' e h.arrays p k h.of_it;
      made_so = subst (λ (ty : Option CType). IsDerived t' (element_with ty e set) h.arrays made) (sym same) (IsDerived-keeps t t' (element_with (type_in t e.number) e set) h.arrays made k h.made_so);
    }

pub IsNamed-keeps : (t t' : List Entry) (whole : Option (Result Part Rule)) (by : Option Named) (part : Part) → Keeps t t' → IsNamed t whole by part → IsNamed t' whole by part
IsNamed-keeps t t' whole None part k h = absurd h
IsNamed-keeps t t' whole (Some (named.Basic ty)) part k h = (k part.number _ h.0, h.1)
IsNamed-keeps t t' whole (Some named.Whole) part k h = h

pub IsSpecified-keeps : (t t' : List Entry) (standing : Standing) (list : List Specifier) (whole : Option (Result Part Rule)) (s : Specification) → Keeps t t' → IsSpecified t standing list whole s → IsSpecified t' standing list whole s
IsSpecified-keeps t t' standing list whole s k h = record {
  class = h.class;
  ty = record {
    plain = h.ty.plain;
    is_named = IsNamed-keeps t t' whole (named_in_list list) h.ty.plain k h.ty.is_named;
    qualified = IsQualified-keeps t t' h.ty.plain (set_in_list list) s.ty k h.ty.qualified;
  };
  inline = h.inline;
  no_return = h.no_return;
}

-- the rule that derivations break over a part is the same in both tables
pub rule_keeps : (t t' : List Entry) (p : Part) (ds : List Derivation) → Keeps t t' → IsPart t p → lowest_rule (shape_at t' p.number) None ds ≡ lowest_rule (shape_at t p.number) None ds
rule_keeps t t' p ds k h = ap (λ s. lowest_rule s None ds) (shape_at-keeps t t' p.number k (part_is_type t p h))
