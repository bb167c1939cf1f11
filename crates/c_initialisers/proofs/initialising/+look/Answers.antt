-- What has nothing to fill is looked at, one expression after the other.
use Rattle.std.proofs.Common.{refl, sym, ap, ◌∙◌}
use Rattle.std.proofs.lemmas.List.{at_drop_all}
use Rattle.c_expr_rules.specs.Expressions.{typed_value}
use Rattle.c_expr_rules.specs.Outcomes.{State, Fine}
use Rattle.c_expr_rules.specs.Views.{seen_state}
use Rattle.c_expr_rules.specs.declared.typed.Typed.{Typed}
use Rattle.c_file_rules.specs.Filling.{nothing_by, look_list}
use Rattle.c_file_rules.specs.Initialising.{nothing_given, looked_at}
use Rattle.c_check_expr.proofs.Growing.{stays, grows_on, err_on}
use Rattle.c_check_expr.proofs.Outcomes.{next_goes, behind_passed, fails_at}
use Rattle.c_check_expr.proofs.Recursion.{passes_same}
use Rattle.c_initialisers.proofs.Rows.{list_looked_at}
use Rattle.c_initialisers.proofs.Told.{done_failed, look_goes, look_fails}
use Rattle.c_initialisers.proofs.initialising.+look.Goals as goal

pub look_at-returns-in_ok-value-in-Expression : goal.look_at-returns-in_ok-value-in-Expression
look_at-returns-in_ok-value-in-Expression g t c =
    let around = g.S.Surroundings.told c.args.checker.now.around.now in
    let s = seen_state c.args.state.now in
    let u = seen_state c.value.new.state in
    let e = c.in-Expression.expr in
    record {
      found = ap (looked_at around s) c.in-Expression.is ∙ next_goes (typed_value around s e) (λ s v. Fine s nothing_given) u _ c.in_ok-value-in-Expression.ensures.found;
      grows = c.in_ok-value-in-Expression.ensures.grows;
    }

pub look_at-returns-in_err-value-in-Expression : goal.look_at-returns-in_err-value-in-Expression
look_at-returns-in_err-value-in-Expression g t c =
    let around = g.S.Surroundings.told c.args.checker.now.around.now in
    let s = seen_state c.args.state.now in
    let u = seen_state c.value.new.state in
    let e = c.in-Expression.expr in
    let f = c.in_err-value-in-Expression.field-0.0 in
    record {
      found = done_failed u nothing_given c.from_residual.result f _ c.from_residual.ensures.1 (fails_at f _ _ (ap (looked_at around s) c.in-Expression.is) (behind_passed u f (typed_value around s e) (λ (s : State) (v : Typed). Fine s nothing_given) c.in_err-value-in-Expression.ensures.found));
      grows = err_on _ c.from_residual.result _ _ c.from_residual.ensures.1;
    }

pub look_at-returns-in-List : goal.look_at-returns-in-List
look_at-returns-in-List g t c =
    let around = g.S.Surroundings.told c.args.checker.now.around.now in
    let s = seen_state c.args.state.now in
    let u = seen_state c.look_at_all.new.state in
    let list = c.in-List.list in
    record {
      found = passes_same u (nothing_by c.look_at_all.result) _ _ (ap (looked_at around s) c.in-List.is ∙ list_looked_at around s c.in-List.span list ∙ ap (look_list around s) (sym c.as_slice.ensures)) c.look_at_all.ensures.found;
      grows = c.look_at_all.ensures.grows;
    }

pub look_at_all-items-init : goal.look_at_all-items-init
look_at_all-items-init g t c = (refl, stays c.args.state.now)

pub look_at_all-items-preserved : goal.look_at_all-items-preserved
look_at_all-items-preserved g t c =
    let around = g.S.Surroundings.told c.args.checker.now.around.now in
    let before = seen_state c.items.state in (
      look_goes around c.args.items.now c.items.item-index before c.item-item.result _ c.items-test.true c.item-item.is c.items.invariant.0 (seen_state c.look_at.new.state) nothing_given c.in_ok-look_at.ensures.found,
      grows_on _ _ _ c.items.invariant.1 c.in_ok-look_at.ensures.grows,
    )

pub look_at_all-returns : goal.look_at_all-returns
look_at_all-returns g t c =
    let around = g.S.Surroundings.told c.args.checker.now.around.now in
    let before = seen_state c.items.state in
    record {
      found = sym c.items.invariant.0 ∙ at_drop_all (look_list around before) c.args.items.now c.items.item-index c.items-test.false;
      grows = c.items.invariant.1;
    }

pub look_at_all-returns-in_err-look_at : goal.look_at_all-returns-in_err-look_at
look_at_all-returns-in_err-look_at g t c =
    let around = g.S.Surroundings.told c.args.checker.now.around.now in
    let before = seen_state c.items.state in
    let u = seen_state c.look_at.new.state in
    let f = c.in_err-look_at.field-0.0 in
    record {
      found = done_failed u nothing_given c.from_residual.result f _ c.from_residual.ensures.1 (look_fails around c.args.items.now c.items.item-index before c.item-item.result _ c.items-test.true c.item-item.is c.items.invariant.0 u f c.in_err-look_at.ensures.found);
      grows = err_on _ c.from_residual.result _ _ c.from_residual.ensures.1;
    }
