-- The value comes before the rule of the return.
use Rattle.std.proofs.Common.{◌≡◌, Bool, [], ◌∷◌, refl, sym, ap, ◌∙◌}
use Rattle.std.specs.Prelude.{Option, is_some}
use Rattle.std.specs.Option.{option_copied}
use Rattle.c_tree.specs.declared.expr.Expr.{Expr as Tree}
use Rattle.c_tree.specs.declared.stmt.Stmt.TheVariants as stmt
use Rattle.c_expr_rules.specs.Outcomes.{State, by_rules, ◌breaks◌}
use Rattle.c_expr_rules.specs.Views.{seen_state}
use Rattle.c_check_expr.proofs.Growing.{err_on, on_any}
use Rattle.c_check_expr.proofs.Outcomes.{next_goes}
use Rattle.c_check_expr.proofs.Recursion.{passes_same}
use Rattle.c_names.specs.Code.{here_at}
use Rattle.c_file_rules.specs.Statements.{optional_result, is_bad_return}
use Rattle.c_file_rules.proofs.Obeying.{obeys_rules}
use Rattle.c_statements.specs.Returning.{return_checked}
use Rattle.c_statements.proofs.Steps.{stops}
use Rattle.c_statements.proofs.runs.return_at.Goals as goal

pub returns : goal.returns
returns g c =
    let here = here_at c.args.scene.now.facts.now (g.S.Surroundings.told c.args.scene.now.around.now) in
    let s = seen_state c.args.state.now in
    let i = c.args.inside in
    let line = c.args.line in
    let e = option_copied c.args.value in
    let first = optional_result here s i.result e in
    let go = λ (s : State) (value : Option Tree). by_rules line (30 breaks is_bad_return s i.result value ∷ []) s (stmt.Return line value) in
    let t = seen_state c.optional_result.new.state in
    let value = c.in_ok-value.value in
    let has : c.is_some.result ≡ is_some value = cc in
    let bad = c.is_bad_return-is_bad.ensures value has in
    record {
      found = passes_same t c.obey.result (return_checked here i s line e) (by_rules line (30 breaks c.is_bad_return-is_bad.result ∷ []) t (stmt.Return line value)) (next_goes first go t value c.in_ok-value.ensures.found ∙ ap (λ (b : Bool). by_rules line (30 breaks b ∷ []) t (stmt.Return line value)) (sym bad)) (obeys_rules t c.obey.result line (30 breaks c.is_bad_return-is_bad.result ∷ []) (stmt.Return line value) c.obey.ensures);
      grows = on_any c.obey.result _ _ c.in_ok-value.ensures.grows;
    }

pub returns-in_err-value : goal.returns-in_err-value
returns-in_err-value g c =
    let here = here_at c.args.scene.now.facts.now (g.S.Surroundings.told c.args.scene.now.around.now) in
    let s = seen_state c.args.state.now in
    let i = c.args.inside in
    let line = c.args.line in
    let e = option_copied c.args.value in
    let first = optional_result here s i.result e in
    let go = λ (s : State) (value : Option Tree). by_rules line (30 breaks is_bad_return s i.result value ∷ []) s (stmt.Return line value) in
    let t = seen_state c.optional_result.new.state in
    record {
      found = stops t t c.from_residual.result c.in_err-value.field-0.0 (return_checked here i s line e) first go refl c.from_residual.ensures.1 c.in_err-value.ensures.found;
      grows = err_on _ c.from_residual.result _ _ c.from_residual.ensures.1;
    }
