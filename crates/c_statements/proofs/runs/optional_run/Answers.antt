-- An expression is a statement where there is one.
use Rattle.std.proofs.Common.{◌≡◌, List, [], ◌∷◌, ◌++◌, sym, ap, ◌∙◌}
use Rattle.std.specs.Prelude.{Some}
use Rattle.std.specs.Option.{option_copied}
use Rattle.c_tree.specs.declared.stmt.Stmt.{Stmt}
use Rattle.c_expr_rules.specs.Outcomes.{State, Fine}
use Rattle.c_expr_rules.specs.Views.{seen_state}
use Rattle.c_check_expr.proofs.Growing.{err_on}
use Rattle.c_check_expr.proofs.Outcomes.{next_goes}
use Rattle.c_names.specs.Code.{here_at}
use Rattle.c_file_rules.specs.Statements.{run_value, optional_run}
use Rattle.c_statements.proofs.Steps.{stops}
use Rattle.c_statements.proofs.runs.optional_run.Goals as goal

pub returns-in_ok-push-in-Some : goal.returns-in_ok-push-in-Some
returns-in_ok-push-in-Some g c =
    let here = here_at c.args.scene.now.facts.now (g.S.Surroundings.told c.args.scene.now.around.now) in
    let s = seen_state c.args.state.now in
    let e = c.in-Some.expr.now in
    let some : option_copied c.args.expr ≡ Some e = cc in
    let go = λ (s : State) (x : Stmt). Fine s (x ∷ []) in
    let t = seen_state c.run_value.new.state in
    let all = c.in_ok-push-in-Some.ensures.ok ∙ ap (λ (l : List Stmt). l ++ c.in_ok-done-in-Some.done ∷ []) c.new-statements.ensures in
    record {
      found = ap (optional_run here s) some ∙ next_goes (run_value here s e) go t c.in_ok-done-in-Some.done c.in_ok-done-in-Some.ensures.found ∙ ap (λ (l : List Stmt). Fine t l) (sym all);
      grows = c.in_ok-done-in-Some.ensures.grows;
    }

pub returns-in_err-done-in-Some : goal.returns-in_err-done-in-Some
returns-in_err-done-in-Some g c =
    let here = here_at c.args.scene.now.facts.now (g.S.Surroundings.told c.args.scene.now.around.now) in
    let s = seen_state c.args.state.now in
    let e = c.in-Some.expr.now in
    let some : option_copied c.args.expr ≡ Some e = cc in
    let go = λ (s : State) (x : Stmt). Fine s (x ∷ []) in
    let t = seen_state c.run_value.new.state in
    record {
      found = stops t t c.from_residual.result c.in_err-done-in-Some.field-0.0 (optional_run here s (option_copied c.args.expr)) (run_value here s e) go (ap (optional_run here s) some) c.from_residual.ensures.1 c.in_err-done-in-Some.ensures.found;
      grows = err_on _ c.from_residual.result _ _ c.from_residual.ensures.1;
    }
