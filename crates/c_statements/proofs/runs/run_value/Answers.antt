-- A statement is what its value is made of.
use Rattle.std.proofs.Common.{◌≡◌, refl, ap}
use Rattle.c_tree.specs.declared.stmt.Stmt.TheVariants as stmt
use Rattle.c_expr_rules.specs.Expressions.{typed_value}
use Rattle.c_expr_rules.specs.Outcomes.{State, Fine, next}
use Rattle.c_expr_rules.specs.TypedExpressions.{tree_of}
use Rattle.c_expr_rules.specs.declared.typed.Typed.{Typed}
use Rattle.c_expr_rules.specs.Views.{seen_state}
use Rattle.c_check_expr.proofs.Growing.{err_on}
use Rattle.c_names.specs.Code.{here_at}
use Rattle.c_file_rules.specs.Statements.{run_value}
use Rattle.c_statements.proofs.Steps.{stops, made_from}
use Rattle.c_statements.proofs.runs.run_value.Goals as goal

pub returns : goal.returns
returns g c =
    let here = here_at c.args.scene.now.facts.now (g.S.Surroundings.told c.args.scene.now.around.now) in
    let s = seen_state c.args.state.now in
    let whole : run_value here s c.args.expr.now ≡ next (typed_value here.around s c.args.expr.now) (λ (s : State) (t : Typed). Fine s (stmt.Run (tree_of t.made))) = refl in
    record {
      found = made_from (typed_value here.around s c.args.expr.now) (λ (t : Typed). stmt.Run (tree_of t.made)) (seen_state c.value_typed.new.state) c.in_ok-typed.typed _ c.in_ok-typed.ensures.found (ap stmt.Run c.in_ok-value.ensures);
      grows = c.in_ok-typed.ensures.grows;
    }

pub returns-in_err-typed : goal.returns-in_err-typed
returns-in_err-typed g c =
    let here = here_at c.args.scene.now.facts.now (g.S.Surroundings.told c.args.scene.now.around.now) in
    let s = seen_state c.args.state.now in
    let whole : run_value here s c.args.expr.now ≡ next (typed_value here.around s c.args.expr.now) (λ (s : State) (t : Typed). Fine s (stmt.Run (tree_of t.made))) = refl in
    let t = seen_state c.value_typed.new.state in
    record {
      found = stops t t c.from_residual.result c.in_err-typed.field-0.0 (run_value here s c.args.expr.now) (typed_value here.around s c.args.expr.now) (λ (s : State) (t : Typed). Fine s (stmt.Run (tree_of t.made))) whole c.from_residual.ensures.1 c.in_err-typed.ensures.found;
      grows = err_on _ c.from_residual.result _ _ c.from_residual.ensures.1;
    }
