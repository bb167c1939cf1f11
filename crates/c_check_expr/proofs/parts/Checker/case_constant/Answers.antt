-- What is found of the constant is a value of the kind.
use Rattle.std.proofs.Common.{refl, sym, ap, ◌∙◌}
use Rattle.c_expr_rules.specs.Outcomes as o
use Rattle.c_expr_rules.specs.Contexts.{integer_constant, as_case}
use Rattle.c_expr_rules.specs.Views.{seen_state}
use Rattle.c_check_expr.proofs.Outcomes.{through_given}
use Rattle.c_check_expr.proofs.Growing.{err_on}
use Rattle.c_check_expr.proofs.Recursion.{gives_failed}
use Rattle.c_check_expr.proofs.parts.Checker.case_constant.Goals as goal

pub returns : goal.returns
returns g c =
    let around = g.S.Surroundings.told c.args.self.now.around.now in
    let s = seen_state c.integer_constant.new.state in
    let wrap = o.outcome_with (as_case c.args.kind) in
    record {
      found = ap wrap c.in_ok-found.ensures.found ∙ sym (c.case_found.ensures s);
      grows = c.in_ok-found.ensures.grows;
    }

pub returns-in_err-found : goal.returns-in_err-found
returns-in_err-found g c =
    let around = g.S.Surroundings.told c.args.self.now.around.now in
    let s = seen_state c.integer_constant.new.state in
    let wrap = o.outcome_with (as_case c.args.kind) in
    let f = c.in_err-found.field-0.0 in
    record {
      found = gives_failed s c.from_residual.result f _ c.from_residual.ensures.1 (through_given s f (integer_constant around (seen_state c.args.state.now) c.args.expr.now) wrap (λ b. refl) c.in_err-found.ensures.found);
      grows = err_on _ c.from_residual.result _ _ c.from_residual.ensures.1;
    }
