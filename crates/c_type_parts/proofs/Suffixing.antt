-- The function that a list of parameters makes.
use Rattle.std.proofs.Common.{◌≡◌, ℕ, List, map, ap, ◌∙◌}
use Rattle.std.specs.Prelude.{Option, Some, None}
use Rattle.c_types.specs.declared.derivation.Derivation.{Derivation}
use Rattle.c_types.specs.declared.entry.Entry.{Entry}
use Rattle.c_types.specs.declared.rule.TypeRule.{TypeRule}
use Rattle.c_types.specs.Extensions.{parameter_list}
use Rattle.c_scope.specs.Scopes.{InnerNames}
use Rattle.c_declarators.specs.declared.parameters.ParameterType.{ParameterType}
use Rattle.c_declarators.specs.Parameters.{lowest_rule}
use Rattle.c_declarations.specs.ParameterTypes.{parameters_in, rule_of_list}
use Rattle.c_expr_rules.specs.Outcomes.{State}
use Rattle.c_file_rules.specs.Naming.{with_types}
use Rattle.c_file_rules.specs.Declarators.{parameter_type, adjusted_types, list_derivation, kept}
use Rattle.c_file_rules.specs.declared.parts.Listed.{Listed}
use Rattle.c_file_rules.specs.declared.parts.Suffixed.{Suffixed}
use Rattle.c_type_parts.specs.Lists.{function_suffix}

module _ (s : State) (scope : InnerNames) (listed : List Listed) (there : List ParameterType) (types : List Entry) (numbers : List ℕ)
    (is_there : there ≡ parameters_in s.table (map parameter_type listed)) (grown : types ≡ (adjusted_types s.table there).0) (gives : numbers ≡ (adjusted_types s.table there).1) where
  abbrev all : List Entry × List ℕ
  all = adjusted_types s.table (parameters_in s.table (map parameter_type listed))

  types_are : types ≡ all.0
  types_are = grown ∙ ap (λ (ps : List ParameterType). (adjusted_types s.table ps).0) is_there

  numbers_are : numbers ≡ all.1
  numbers_are = gives ∙ ap (λ (ps : List ParameterType). (adjusted_types s.table ps).1) is_there

  pub suffix_leaves : (after : List Entry) → after ≡ (parameter_list types numbers).0 → with_types after s ≡ (function_suffix s scope listed).0
  suffix_leaves after h = ap (λ (t : List Entry). with_types t s) (h ∙ (λ i. (parameter_list (types_are i) (numbers_are i)).0))

  pub suffix_is :
      (list : ℕ) (broken : Option TypeRule) (derivation : Derivation) (left : List Listed) →
      list ≡ (parameter_list types numbers).1 → broken ≡ lowest_rule s.table None there → derivation ≡ list_derivation broken list → left ≡ kept s.table listed →
      record { derivation = derivation; prototype = Some (record { listed = left; scope = scope }) } ≡ (function_suffix s scope listed).1
  suffix_is list broken derivation left l b d k =
      let number : list ≡ (parameter_list all.0 all.1).1 = l ∙ (λ i. (parameter_list (types_are i) (numbers_are i)).1) in
      let rule : broken ≡ rule_of_list s.table (map parameter_type listed) = b ∙ ap (lowest_rule s.table None) is_there in
      let made : derivation ≡ list_derivation (rule_of_list s.table (map parameter_type listed)) (parameter_list all.0 all.1).1 =
      d ∙ (λ i. list_derivation (rule i) (number i)) in
      λ i. record { derivation = made i; prototype = Some (record { listed = k i; scope = scope }) }
