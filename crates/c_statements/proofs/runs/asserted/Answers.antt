-- An assertion is no statement.
use Rattle.std.proofs.Common.{List, []}
use Rattle.c_tree.specs.declared.stmt.Stmt.{Stmt}
use Rattle.c_expr_rules.specs.Contexts.{assertion_constant}
use Rattle.c_expr_rules.specs.Outcomes.{State, Checked, Fine}
use Rattle.c_expr_rules.specs.declared.typed.Typed.{Typed}
use Rattle.c_expr_rules.specs.Views.{seen_state}
use Rattle.c_check_expr.proofs.Growing.{err_on}
use Rattle.c_check_expr.proofs.Outcomes.{next_goes, behind_passed}
use Rattle.c_names.specs.Code.{here_at}
use Rattle.c_file_rules.specs.Statements.{asserted}
use Rattle.c_statements.proofs.Steps.{asserted_fails}
use Rattle.c_statements.proofs.runs.asserted.Goals as goal

pub returns : goal.returns
returns g c =
    let here = here_at c.args.scene.now.facts.now (g.S.Surroundings.told c.args.scene.now.around.now) in
    let s = seen_state c.args.state.now in
    let a = c.args.assertion.now in
    let first = assertion_constant here.around s a.condition in
    let go : State → Typed → Checked (List Stmt) = λ s t. Fine s [] in
    let t = seen_state c.assertion_typed.new.state in
    record {
      found = next_goes first go t c.in_ok-assertion_typed.field-0 c.in_ok-assertion_typed.ensures.found;
      grows = c.in_ok-assertion_typed.ensures.grows;
    }

pub returns-in_err-assertion_typed : goal.returns-in_err-assertion_typed
returns-in_err-assertion_typed g c =
    let here = here_at c.args.scene.now.facts.now (g.S.Surroundings.told c.args.scene.now.around.now) in
    let s = seen_state c.args.state.now in
    let a = c.args.assertion.now in
    let first = assertion_constant here.around s a.condition in
    let go : State → Typed → Checked (List Stmt) = λ s t. Fine s [] in
    let t = seen_state c.assertion_typed.new.state in
    let f = c.in_err-assertion_typed.field-0.0 in
    record {
      found = asserted_fails t c.from_residual.result f (asserted here s a) c.from_residual.ensures.1 (behind_passed t f first go c.in_err-assertion_typed.ensures.found);
      grows = err_on _ c.from_residual.result _ _ c.from_residual.ensures.1;
    }
