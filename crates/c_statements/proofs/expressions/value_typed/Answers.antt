-- What is round the scene is round the checker.
use Rattle.std.proofs.Common.{ap}
use Rattle.c_expr_rules.specs.Views.{seen_state}
use Rattle.c_expr_rules.specs.Expressions.{Around, typed_value}
use Rattle.c_statements.proofs.Steps.{value_at}
use Rattle.c_statements.proofs.expressions.value_typed.Goals as goal

pub returns-clause-found : goal.returns-clause-found
returns-clause-found g c =
    let s = seen_state c.args.state.now in
    value_at (λ (a : Around). typed_value a s c.args.expr.now) _ _ (seen_state c.value.new.state) c.value.result (ap g.S.Surroundings.told c.checker.ensures) c.value.ensures.found
