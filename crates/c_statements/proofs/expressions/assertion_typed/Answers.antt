-- What is found is looked at in the state behind it.
use Rattle.std.proofs.Common.{ap}
use Rattle.c_expr_rules.specs.Views.{seen_state}
use Rattle.c_expr_rules.specs.Contexts.{assertion_constant}
use Rattle.c_expr_rules.specs.Expressions.{Around}
use Rattle.c_statements.proofs.Steps.{passed_at, failed_at}
use Rattle.c_statements.proofs.expressions.assertion_typed.Goals as goal

pub returns-clause-found : goal.returns-clause-found
returns-clause-found g c =
    let s = seen_state c.args.state.now in
    passed_at (λ (a : Around). assertion_constant a s c.args.expr.now) _ _ (seen_state c.assertion_constant.new.state) c.in_ok-found.found c.passed.result (ap g.S.Surroundings.told c.checker.ensures) c.in_ok-found.ensures.found c.passed.ensures

pub returns-in_err-found-clause-found : goal.returns-in_err-found-clause-found
returns-in_err-found-clause-found g c =
    let s = seen_state c.args.state.now in
    failed_at (λ (a : Around). assertion_constant a s c.args.expr.now) _ _ (seen_state c.assertion_constant.new.state) c.from_residual.result c.in_err-found.field-0.0 (ap g.S.Surroundings.told c.checker.ensures) c.in_err-found.ensures.found c.from_residual.ensures.1
