-- What may have no initialiser gets nothing by it.
use Rattle.std.proofs.Common.{ℕ, true, [], ◌∷◌, sym, ap, ◌∙◌, subst}
use Rattle.std.specs.Prelude.{Err}
use Rattle.c_syntax.specs.Files.{initialiser_span}
use Rattle.c_expr_rules.specs.Outcomes.{State, by_rules, ◌breaks◌}
use Rattle.c_expr_rules.specs.Expressions.{Around}
use Rattle.c_expr_rules.specs.Views.{seen_state}
use Rattle.c_expr_rules.specs.Views.{Passes}
use Rattle.c_check_expr.proofs.Growing.{err_on}
use Rattle.c_check_expr.proofs.Outcomes.{next_goes, behind_passed}
use Rattle.c_names.specs.Code.{here_at}
use Rattle.c_file_rules.specs.Declaring.{needless}
use Rattle.c_file_rules.specs.Initialising.{looked_at, nothing_given}
use Rattle.c_file_rules.specs.declared.targets.Given.{Given}
use Rattle.c_statements.proofs.Receiving.{refused_so, told_fails}
use Rattle.c_statements.proofs.declarations.needless.Goals as goal

pub returns : goal.returns
returns g c =
    let here = here_at c.args.scene.now.facts.now (g.S.Surroundings.told c.args.scene.now.around.now) in
    let s = seen_state c.args.state.now in
    let at = ap g.S.Surroundings.told c.checker.ensures in
    let i = c.args.initialiser.now in
    let line = (initialiser_span i).line in
    let t = seen_state c.look_at.new.state in
    let go = λ (s : State) (g : Given). by_rules line (11 breaks true ∷ []) s g in
    record {
      found = next_goes (looked_at here.around s i) go t nothing_given (ap (λ (a : Around). looked_at a s i) (sym at) ∙ c.in_ok-look_at.ensures.found) ∙ refused_so line t nothing_given nothing_given c.by_rules.result (c.by_rules.ensures t ∙ ap (λ (l : ℕ). by_rules l (11 breaks true ∷ []) t tt) c.line_of.ensures);
      grows = c.in_ok-look_at.ensures.grows;
    }

pub returns-in_err-look_at : goal.returns-in_err-look_at
returns-in_err-look_at g c =
    let here = here_at c.args.scene.now.facts.now (g.S.Surroundings.told c.args.scene.now.around.now) in
    let s = seen_state c.args.state.now in
    let at = ap g.S.Surroundings.told c.checker.ensures in
    let i = c.args.initialiser.now in
    let line = (initialiser_span i).line in
    let t = seen_state c.look_at.new.state in
    let go = λ (s : State) (g : Given). by_rules line (11 breaks true ∷ []) s g in
    let f = c.in_err-look_at.field-0.0 in
    record {
      found = told_fails t nothing_given c.from_residual.result f (needless here s i) c.from_residual.ensures.1 (behind_passed t f (looked_at here.around s i) go (subst (λ (a : Around). Passes {A = Given} t (Err f) (looked_at a s i)) at c.in_err-look_at.ensures.found));
      grows = err_on _ c.from_residual.result _ _ c.from_residual.ensures.1;
    }
