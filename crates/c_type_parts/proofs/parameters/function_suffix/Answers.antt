-- The parameters that there are, after their adjustment, are the list's.
use Rattle.std.proofs.Common.{◌≡◌, List, map, ap, ◌∙◌}
use Rattle.c_declarators.specs.declared.parameters.ParameterType.{ParameterType}
use Rattle.c_declarations.specs.ParameterTypes.{parameters_in}
use Rattle.c_expr_rules.specs.Views.{seen_state}
use Rattle.c_file_rules.specs.Declarators.{parameter_type}
use Rattle.c_file_rules.specs.declared.parts.Listed.{Listed}
use Rattle.c_type_parts.proofs.Suffixing.{suffix_leaves, suffix_is}
use Rattle.c_type_parts.proofs.parameters.function_suffix.Goals as goal

pub kept-left-requires : goal.kept-left-requires
kept-left-requires c =
    c.as_slice-3.ensures.value ∙ c.in_ok-parameters.ensures ∙ ap (λ (ls : List Listed). map parameter_type ls) c.as_slice.ensures

pub returns-clause-state : goal.returns-clause-state
returns-clause-state c =
    let table = c.args.state.now.types in
    let there : c.parameters_there-there.result.now ≡ parameters_in table (map parameter_type c.args.listed) =
    c.parameters_there-there.ensures
    ∙ ap (parameters_in table) (c.as_slice-2.ensures.value ∙ c.in_ok-parameters.ensures ∙ ap (λ (ls : List Listed). map parameter_type ls) c.as_slice.ensures) in
    suffix_leaves (seen_state c.args.state.now) c.args.scope c.args.listed c.parameters_there-there.result.now c.adjusted_types.new.types c.as_slice-4.result.now
    there c.in_ok-numbers.ensures.grown (c.as_slice-4.ensures.value ∙ c.in_ok-numbers.ensures.gives) c.parameter_list.new.types c.in_ok-list.ensures.grown

pub returns-clause-found : goal.returns-clause-found
returns-clause-found c =
    let table = c.args.state.now.types in
    let there : c.parameters_there-there.result.now ≡ parameters_in table (map parameter_type c.args.listed) =
    c.parameters_there-there.ensures
    ∙ ap (parameters_in table) (c.as_slice-2.ensures.value ∙ c.in_ok-parameters.ensures ∙ ap (λ (ls : List Listed). map parameter_type ls) c.as_slice.ensures) in
    suffix_is (seen_state c.args.state.now) c.args.scope c.args.listed c.parameters_there-there.result.now c.adjusted_types.new.types c.as_slice-4.result.now
    there c.in_ok-numbers.ensures.grown (c.as_slice-4.ensures.value ∙ c.in_ok-numbers.ensures.gives)
    c.in_ok-list.list c.lowest_rule_of-broken.result c.list_derivation.result c.kept-left.result
    c.in_ok-list.ensures.gives c.lowest_rule_of-broken.ensures c.list_derivation.ensures c.kept-left.ensures
