-- A condition is a statement before the body.
use Rattle.std.proofs.Common.{List, [], ◌∷◌, ◌++◌, sym, ap, ◌∙◌}
use Rattle.c_tree.specs.declared.stmt.Stmt.{Stmt}
use Rattle.c_expr_rules.specs.Outcomes.{State, Fine}
use Rattle.c_expr_rules.specs.Views.{seen_state}
use Rattle.c_check_expr.proofs.Growing.{err_on}
use Rattle.c_check_expr.proofs.Outcomes.{next_goes}
use Rattle.c_names.specs.Code.{here_at}
use Rattle.c_file_rules.specs.Statements.{tested}
use Rattle.c_statements.specs.Waiting.{unless_of}
use Rattle.c_statements.proofs.StatementTrees.{tested_is}
use Rattle.c_statements.proofs.Steps.{stops}
use Rattle.c_statements.proofs.runs.tested.Goals as goal

pub returns : goal.returns
returns g c =
    let here = here_at c.args.scene.now.facts.now (g.S.Surroundings.told c.args.scene.now.around.now) in
    let s = seen_state c.args.state.now in
    let e = c.args.condition.now in
    let go = λ (s : State) (x : Stmt). Fine s (x ∷ []) in
    let t = seen_state c.break_unless.new.state in
    let all = c.in_ok-push.ensures.ok ∙ ap (λ (l : List Stmt). l ++ c.in_ok-test.test ∷ []) c.new-statements.ensures in
    record {
      found = tested_is here s e ∙ next_goes (unless_of here s e) go t c.in_ok-test.test c.in_ok-test.ensures.found ∙ ap (λ (l : List Stmt). Fine t l) (sym all);
      grows = c.in_ok-test.ensures.grows;
    }

pub returns-in_err-test : goal.returns-in_err-test
returns-in_err-test g c =
    let here = here_at c.args.scene.now.facts.now (g.S.Surroundings.told c.args.scene.now.around.now) in
    let s = seen_state c.args.state.now in
    let e = c.args.condition.now in
    let go = λ (s : State) (x : Stmt). Fine s (x ∷ []) in
    let t = seen_state c.break_unless.new.state in
    record {
      found = stops t t c.from_residual.result c.in_err-test.field-0.0 (tested here s e) (unless_of here s e) go (tested_is here s e) c.from_residual.ensures.1 c.in_err-test.ensures.found;
      grows = err_on _ c.from_residual.result _ _ c.from_residual.ensures.1;
    }
