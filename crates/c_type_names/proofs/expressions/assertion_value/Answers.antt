-- What is found is looked at in the state behind it.
use Rattle.std.proofs.Common.{sym, ap}
use Rattle.c_expr_rules.specs.Contexts.{assertion_constant}
use Rattle.c_expr_rules.specs.Views.{seen_state}
use Rattle.c_check_expr.proofs.Recursion.{passes_same}
use Rattle.c_type_names.proofs.Passing.{passes_on}
use Rattle.c_type_names.proofs.expressions.assertion_value.Goals as goal

pub returns-clause-found : goal.returns-clause-found
returns-clause-found g c =
    let t = seen_state c.assertion_constant.new.state in
    passes_same t c.passed.result _ _
    (ap (λ x. assertion_constant (g.S.Surroundings.told x) (seen_state c.args.state.now) c.args.condition.now) (sym c.checker.ensures))
    (passes_on t c.in_ok-found.found c.passed.result _ c.in_ok-found.ensures.found c.passed.ensures)
