-- A parameter with a name is declared at the end.
use Rattle.std.proofs.Common.{◌∙◌, sym}
use Rattle.c_expr_rules.specs.Views.{seen_state}
use Rattle.c_names.specs.Code.{here_at}
use Rattle.c_type_parts.proofs.NamedParameters.{parameter_is_found, parameter_fails}
use Rattle.c_type_parts.proofs.Passed.{passes_failed}
use Rattle.c_type_parts.proofs.parameters.named_parameter.Goals as goal

pub returns-in_err-part-clause-found : goal.returns-in_err-part-clause-found
returns-in_err-part-clause-found g c =
    let here = here_at c.args.scene.now.facts.now (g.S.Surroundings.told c.args.scene.now.around.now) in
    let t = seen_state c.declared_type.new.state in
    passes_failed t c.from_residual.result c.in_err-part.field-0.0 _ c.from_residual.ensures.1
    (parameter_fails here c.args.line c.args.index c.args.name c.args.said (seen_state c.args.state.now) c.args.derivations.now c.spelling-letters.result.now c.is_register_word-is_register.result c.is_again-again.result c.parameter_object-of_base.result
    c.spelling-letters.ensures c.is_register_word-is_register.ensures c.parameter_object-of_base.ensures c.is_again-again.ensures
    t c.in_err-part.field-0.0 c.in_err-part.ensures.found)

pub returns-clause-found : goal.returns-clause-found
returns-clause-found g c =
    let here = here_at c.args.scene.now.facts.now (g.S.Surroundings.told c.args.scene.now.around.now) in
    parameter_is_found here c.args.line c.args.index c.args.name c.args.said (seen_state c.args.state.now) c.args.derivations.now c.spelling-letters.result.now c.is_register_word-is_register.result c.is_again-again.result c.parameter_object-of_base.result
    c.spelling-letters.ensures c.is_register_word-is_register.ensures c.parameter_object-of_base.ensures c.is_again-again.ensures
    (seen_state c.declared_type.new.state) (seen_state c.declare.new.state) c.in_ok-part.part c.in_ok-made.made c.adjusted.new.types c.in_ok-again.again c.parameter_object-what.result c.size_rule-size.result c.first_of.result c.obey_rule.result
    c.in_ok-part.ensures.found c.in_ok-made.ensures.grown c.in_ok-made.ensures.gives c.size_rule-size.ensures c.parameter_object-what.ensures c.in_ok-again.ensures.again c.in_ok-again.ensures.state c.first_of.ensures c.obey_rule.ensures
