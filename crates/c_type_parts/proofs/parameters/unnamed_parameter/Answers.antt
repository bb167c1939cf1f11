-- A parameter without a name has its type, or the rule that its declarator breaks.
use Rattle.c_expr_rules.specs.Views.{seen_state}
use Rattle.c_names.specs.Code.{here_at}
use Rattle.c_type_parts.proofs.UnnamedParameters.{unnamed_is}
use Rattle.c_type_parts.proofs.parameters.unnamed_parameter.Goals as goal

pub returns-clause-found : goal.returns-clause-found
returns-clause-found g c =
    let here = here_at c.args.scene.now.facts.now (g.S.Surroundings.told c.args.scene.now.around.now) in
    unnamed_is here (seen_state c.args.state.now) c.args.line c.args.said c.args.derivations.now c.derived.new.types c.in_ok-made.made c.type_rule-broken.result c.made_or_rule.result
    c.in_ok-made.ensures.grown c.in_ok-made.ensures.gives c.type_rule-broken.ensures c.made_or_rule.ensures
