-- A value is converted where there is one.
use Rattle.std.proofs.Common.{◌≡◌, ap, ◌∙◌}
use Rattle.std.specs.Prelude.{Some}
use Rattle.std.specs.Option.{option_copied}
use Rattle.c_tree.specs.declared.expr.Expr.{Expr as Tree}
use Rattle.c_expr_rules.specs.Contexts.{assertion_constant}
use Rattle.c_expr_rules.specs.Contexts as contexts
use Rattle.c_expr_rules.specs.Outcomes.{State, Fine}
use Rattle.c_expr_rules.specs.TypedExpressions.{tree_of}
use Rattle.c_expr_rules.specs.declared.typed.Typed.{Typed}
use Rattle.c_expr_rules.specs.Views.{seen_state}
use Rattle.c_check_expr.proofs.Growing.{err_on}
use Rattle.c_names.specs.Code.{here_at}
use Rattle.c_file_rules.specs.Statements.{optional_result}
use Rattle.c_statements.proofs.Steps.{stops, made_from}
use Rattle.c_statements.proofs.runs.optional_result.Goals as goal

pub returns : goal.returns
returns g c =
    let here = here_at c.args.scene.now.facts.now (g.S.Surroundings.told c.args.scene.now.around.now) in
    let s = seen_state c.args.state.now in
    let e = c.in-Some.value.now in
    let some : option_copied c.args.value ≡ Some e = cc in
    let first = contexts.result here.around s c.args.ty e in
    let go = λ (s : State) (t : Typed). Fine s (Some (tree_of t.made)) in
    let t = seen_state c.result_typed.new.state in
    let whole = ap (optional_result here s c.args.ty) some in
    record {
      found = whole ∙ made_from first (λ (t : Typed). Some (tree_of t.made)) t c.in_ok-typed.typed _ c.in_ok-typed.ensures.found (ap (λ (x : Tree). Some x) c.in_ok-tree.ensures);
      grows = c.in_ok-typed.ensures.grows;
    }

pub returns-in_err-typed : goal.returns-in_err-typed
returns-in_err-typed g c =
    let here = here_at c.args.scene.now.facts.now (g.S.Surroundings.told c.args.scene.now.around.now) in
    let s = seen_state c.args.state.now in
    let e = c.in-Some.value.now in
    let some : option_copied c.args.value ≡ Some e = cc in
    let first = contexts.result here.around s c.args.ty e in
    let go = λ (s : State) (t : Typed). Fine s (Some (tree_of t.made)) in
    let t = seen_state c.result_typed.new.state in
    let whole = ap (optional_result here s c.args.ty) some in
    record {
      found = stops t t c.from_residual.result c.in_err-typed.field-0.0 (optional_result here s c.args.ty (option_copied c.args.value)) first go whole c.from_residual.ensures.1 c.in_err-typed.ensures.found;
      grows = err_on _ c.from_residual.result _ _ c.from_residual.ensures.1;
    }
