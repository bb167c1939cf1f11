-- An assertion makes no function.
use Rattle.c_expr_rules.specs.Views.{seen_state}
use Rattle.c_names.specs.Around.{with_homes}
use Rattle.c_names.specs.Code.{here_at}
use Rattle.c_check.proofs.Asserting.{assertion_stops}
use Rattle.c_check.proofs.constructs.external_made.Goals as goal

pub returns-in_err-asserted-in-Assertion : goal.returns-in_err-asserted-in-Assertion
returns-in_err-asserted-in-Assertion g c =
    let around = g.S.Surroundings.told c.args.scene.now.around.now in
    assertion_stops (here_at c.args.scene.now.facts.now around) (here_at c.args.scene.now.facts.now (with_homes c.args.homes.now around))
    (seen_state c.args.state.now) (seen_state c.asserted.new.state) c.args.item.now c.in-Assertion.assertion
    c.from_residual-in_err-asserted-in-Assertion.result c.in_err-asserted-in-Assertion.field-0.0 c.in-Assertion.is
    c.from_residual-in_err-asserted-in-Assertion.ensures.1 c.in_err-asserted-in-Assertion.ensures.found
