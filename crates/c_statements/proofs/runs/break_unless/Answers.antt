-- A loop is left by its condition.
use Rattle.std.proofs.Common.{◌≡◌, refl}
use Rattle.c_tree.specs.declared.expr.Expr.{Expr as Tree}
use Rattle.c_tree.specs.declared.stmt.Stmt.TheVariants as stmt
use Rattle.c_expr_rules.specs.Outcomes.{State, Fine, next}
use Rattle.c_expr_rules.specs.Views.{seen_state}
use Rattle.c_check_expr.proofs.Growing.{err_on}
use Rattle.c_check_expr.proofs.Outcomes.{next_goes}
use Rattle.c_names.specs.Code.{here_at}
use Rattle.c_statements.specs.Waiting.{test_of, unless_of}
use Rattle.c_statements.proofs.Steps.{stops}
use Rattle.c_statements.proofs.runs.break_unless.Goals as goal

pub returns : goal.returns
returns g c =
    let here = here_at c.args.scene.now.facts.now (g.S.Surroundings.told c.args.scene.now.around.now) in
    let s = seen_state c.args.state.now in
    let whole : unless_of here s c.args.condition.now ≡ next (test_of here s c.args.condition.now) (λ (s : State) (t : Tree). Fine s (stmt.BreakUnless c.args.condition.now.span.line t)) = refl in
    record {
      found = next_goes (test_of here s c.args.condition.now) (λ (s : State) (t : Tree). Fine s (stmt.BreakUnless c.args.condition.now.span.line t)) (seen_state c.test_tree.new.state) c.in_ok-test.test c.in_ok-test.ensures.found;
      grows = c.in_ok-test.ensures.grows;
    }

pub returns-in_err-test : goal.returns-in_err-test
returns-in_err-test g c =
    let here = here_at c.args.scene.now.facts.now (g.S.Surroundings.told c.args.scene.now.around.now) in
    let s = seen_state c.args.state.now in
    let whole : unless_of here s c.args.condition.now ≡ next (test_of here s c.args.condition.now) (λ (s : State) (t : Tree). Fine s (stmt.BreakUnless c.args.condition.now.span.line t)) = refl in
    let t = seen_state c.test_tree.new.state in
    record {
      found = stops t t c.from_residual.result c.in_err-test.field-0.0 (unless_of here s c.args.condition.now) (test_of here s c.args.condition.now) (λ (s : State) (t : Tree). Fine s (stmt.BreakUnless c.args.condition.now.span.line t)) whole c.from_residual.ensures.1 c.in_err-test.ensures.found;
      grows = err_on _ c.from_residual.result _ _ c.from_residual.ensures.1;
    }
