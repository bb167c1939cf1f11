-- What is found of a value without a fault is the value, or the rule that is broken.
use Rattle.c_expr_rules.specs.Views.{seen_state}
use Rattle.c_check_expr.proofs.Growing.{on_any, err_on}
use Rattle.c_check_expr.proofs.Joined.{given_fails}
use Rattle.c_check_expr.proofs.Recursion.{passes_same, passes_failed}
use Rattle.c_initialisers.proofs.fills.static_value.Goals as goal

pub returns : goal.returns
returns g c =
    let u = seen_state c.without_fault.new.state in
    record {
      found = passes_same u c.passed.result _ _ c.in_ok-found.ensures.found (c.passed.ensures u);
      grows = on_any c.passed.result _ _ c.in_ok-found.ensures.grows;
    }

pub returns-in_err-found : goal.returns-in_err-found
returns-in_err-found g c =
    let u = seen_state c.without_fault.new.state in
    let f = c.in_err-found.field-0.0 in
    record {
      found = passes_failed u c.from_residual.result f _ c.from_residual.ensures.1 (given_fails u f _ c.in_err-found.ensures.found);
      grows = err_on _ c.from_residual.result _ _ c.from_residual.ensures.1;
    }
