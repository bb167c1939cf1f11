-- The rule is looked at in what is found, which is then converted.
use Rattle.std.proofs.Common.{refl, sym, ap, ◌∙◌}
use Rattle.c_expr_rules.specs.Converting.{conversion, or_itself}
use Rattle.c_expr_rules.specs.Contexts.{is_bad_result}
use Rattle.c_expr_rules.specs.Outcomes as o
use Rattle.c_expr_rules.specs.TypedExpressions.{type_at}
use Rattle.c_expr_rules.specs.declared.typed.Typed.{Typed}
use Rattle.c_expr_rules.specs.Expressions.{typed_value}
use Rattle.c_expr_rules.specs.Views.{seen_state}
use Rattle.c_check_expr.proofs.Outcomes.{through_given}
use Rattle.c_check_expr.proofs.Growing.{err_on}
use Rattle.c_check_expr.proofs.Recursion.{gives_failed}
use Rattle.c_check_expr.proofs.parts.Checker.result_value.Goals as goal

pub returns : goal.returns
returns g c =
    let around = g.S.Surroundings.told c.args.self.now.around.now in
    let s = seen_state c.whole_value.new.state in
    let line = c.args.expr.now.span.line in
    let test = λ (s : o.State) (t : Typed). is_bad_result s (type_at s c.args.ty) t in
    let broken = c.also-found.ensures s test c.is_bad_result-is_broken.ensures in
    record {
      found = ap (λ (x : o.Checked Typed). o.outcome_with (λ (s : o.State) (t : Typed). or_itself t (conversion s (type_at s c.args.ty) t)) (o.also line 18 test x)) c.in_ok-found.ensures.found ∙ ap (o.outcome_with (λ (s : o.State) (t : Typed). or_itself t (conversion s (type_at s c.args.ty) t))) (sym broken) ∙ sym (c.in_ok-convert_found.ensures);
      grows = c.in_ok-found.ensures.grows;
    }

pub returns-in_err-found : goal.returns-in_err-found
returns-in_err-found g c =
    let around = g.S.Surroundings.told c.args.self.now.around.now in
    let s = seen_state c.whole_value.new.state in
    let line = c.args.expr.now.span.line in
    let test = λ (s : o.State) (t : Typed). is_bad_result s (type_at s c.args.ty) t in
    let f = c.in_err-found.field-0.0 in
    record {
      found = gives_failed s c.from_residual.result f _ c.from_residual.ensures.1 (through_given s f (typed_value around (seen_state c.args.state.now) c.args.expr.now) (λ (x : o.Checked Typed). o.outcome_with (λ (s : o.State) (t : Typed). or_itself t (conversion s (type_at s c.args.ty) t)) (o.also line 18 test x)) (λ b. refl) c.in_err-found.ensures.found);
      grows = err_on _ c.from_residual.result _ _ c.from_residual.ensures.1;
    }
