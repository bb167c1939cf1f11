-- What is found is read.
use Rattle.std.proofs.Common.{sym, ap, ◌∙◌}
use Rattle.c_expr_rules.specs.Reading.{read_found}
use Rattle.c_expr_rules.specs.Expressions.{typed_expression}
use Rattle.c_expr_rules.specs.Views.{seen_state}
use Rattle.c_check_expr.proofs.Growing.{err_on}
use Rattle.c_check_expr.proofs.Recursion.{gives_failed, value_fails}
use Rattle.c_check_expr.proofs.parts.Checker.whole_value.Goals as goal

pub returns : goal.returns
returns g c =
    let around = g.S.Surroundings.told c.args.self.now.around.now in
    let s = seen_state c.expression.new.state in
    record {
      found = ap read_found c.in_ok-found.ensures.found ∙ sym (c.in_ok-read_found.ensures s);
      grows = c.in_ok-found.ensures.grows;
    }

pub returns-in_err-found : goal.returns-in_err-found
returns-in_err-found g c =
    let around = g.S.Surroundings.told c.args.self.now.around.now in
    let s = seen_state c.expression.new.state in
    let f = c.in_err-found.field-0.0 in
    record {
      found = gives_failed s c.from_residual.result f _ c.from_residual.ensures.1 (value_fails s f (typed_expression around (seen_state c.args.state.now) c.args.expr.now) c.in_err-found.ensures.found);
      grows = err_on _ c.from_residual.result _ _ c.from_residual.ensures.1;
    }
