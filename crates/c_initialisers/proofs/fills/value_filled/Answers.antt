-- A value fills what it is converted to, and what fails in the expression fails.
use Rattle.std.proofs.Common.{sym, ap, ◌∙◌}
use Rattle.c_types.specs.declared.ctype.CType.{CType}
use Rattle.c_expr_rules.specs.Converting.{conversion, or_itself}
use Rattle.c_expr_rules.specs.Outcomes.{State, by_rules}
use Rattle.c_expr_rules.specs.TypedExpressions.{type_at}
use Rattle.c_expr_rules.specs.Views.{seen_state}
use Rattle.c_expr_rules.specs.declared.typed.Typed.{Typed}
use Rattle.c_file_rules.specs.Filling.{giving, told_with}
use Rattle.c_file_rules.specs.Initialising.{initial_value, value_rules, value_given, value_filled}
use Rattle.c_check_expr.proofs.Growing.{on_any, err_on}
use Rattle.c_check_expr.proofs.Outcomes.{next_goes, behind_passed}
use Rattle.c_check_expr.proofs.Recursion.{gives_same}
use Rattle.c_initialisers.proofs.Told.{giving_failed, told_failed}
use Rattle.c_initialisers.proofs.fills.value_filled.Goals as goal

pub returns : goal.returns
returns g c =
    let around = g.S.Surroundings.told c.args.checker.now.around.now in
    let s = seen_state c.args.state.now in
    let u = seen_state c.initial_value.new.state in
    let t = c.args.target.now in
    let e = c.args.expr.now in
    let v = c.in_ok-value.value in
    let go = λ (ty : CType) (s : State) (v : Typed). by_rules e.span.line (value_rules t s ty v) s (value_given around e.span.line s t (or_itself v (conversion s ty v))) in
    let whole = ap (giving c.args.given.now t) (next_goes (initial_value around t s e) (go (type_at s t.part.number)) u v c.in_ok-value.ensures.found ∙ ap (λ (ty : CType). go ty u v) (sym c.type_at-ty.ensures)) in
    record {
      found = gives_same u (told_with c.value_given.new.given c.value_given.result) _ _ whole c.value_given.ensures;
      grows = on_any c.value_given.result _ _ c.in_ok-value.ensures.grows;
    }

pub returns-in_err-value : goal.returns-in_err-value
returns-in_err-value g c =
    let around = g.S.Surroundings.told c.args.checker.now.around.now in
    let s = seen_state c.args.state.now in
    let u = seen_state c.initial_value.new.state in
    let t = c.args.target.now in
    let e = c.args.expr.now in
    let f = c.in_err-value.field-0.0 in
    let go = λ (s' : State) (v : Typed). by_rules e.span.line (value_rules t s' (type_at s t.part.number) v) s' (value_given around e.span.line s' t (or_itself v (conversion s' (type_at s t.part.number) v))) in
    record {
      found = told_failed u _ c.from_residual.result f _ c.from_residual.ensures.1 (giving_failed f c.args.given.now t (value_filled around t s e) (behind_passed u f (initial_value around t s e) go c.in_err-value.ensures.found));
      grows = err_on _ c.from_residual.result _ _ c.from_residual.ensures.1;
    }
