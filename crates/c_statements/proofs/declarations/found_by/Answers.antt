-- What is given is kept through the rules by its size.
use Rattle.std.proofs.Common.{ℕ, Bool, refl, ap, ap₂, ◌∙◌}
use Rattle.c_syntax.specs.Files.{initialiser_span}
use Rattle.c_expr_rules.specs.Views.{seen_state}
use Rattle.c_expr_rules.specs.Views.{checked}
use Rattle.c_check_expr.proofs.Growing.{err_on}
use Rattle.c_check_expr.proofs.Recursion.{passes_failed}
use Rattle.c_names.specs.Code.{here_at}
use Rattle.c_file_rules.specs.Declaring.{size_breaks, given_by}
use Rattle.c_file_rules.specs.declared.targets.Given.{Given}
use Rattle.c_statements.specs.Stated.{given_kept, is_other_size}
use Rattle.c_statements.proofs.Receiving.{breaks_kept, passed_kept, stopped_kept, sizes_fail}
use Rattle.c_statements.proofs.Steps.{passes_err_on}
use Rattle.c_check_expr.proofs.Joined.{given_fails}
use Rattle.c_statements.proofs.declarations.found_by.Goals as goal

pub returns : goal.returns
returns g c =
    let here = here_at c.args.scene.now.facts.now (g.S.Surroundings.told c.args.scene.now.around.now) in
    let s = seen_state c.args.state.now in
    let i = c.args.initialiser.now in
    let to = c.args.receiver in
    let d = c.args.receiver.what in
    let line = (initialiser_span i).line in
    let t = seen_state c.given_by.new.state in
    let first = given_by here to.standing d to.items s i in
    let g1 = c.given_by.new.given in
    let lines = c.line_of-line.ensures in
    let large = breaks_kept d g1 line 5 (λ (x : Given). refl) to.is_too_large t c.in_ok-found.found c.size_breaks-found.result first (c.size_breaks-found.ensures t ∙ ap (λ (l : ℕ). size_breaks l 5 to.is_too_large (checked t c.in_ok-found.found)) lines) c.in_ok-found.ensures.found in
    let other = breaks_kept d g1 line 2 (λ (x : Given). refl) (is_other_size to) t c.size_breaks-found.result c.size_breaks.result (size_breaks line 5 to.is_too_large first) (c.size_breaks.ensures t ∙ ap₂ (λ (l : ℕ) (b : Bool). size_breaks l 2 b (checked t c.size_breaks-found.result)) lines c.is_other_size-is_other.ensures) large in
    record {
      found = passed_kept d g1 t c.size_breaks.result _ tt other (c.in_ok-passed.ensures t);
      grows = c.in_ok-found.ensures.grows;
    }

pub returns-in_err-found : goal.returns-in_err-found
returns-in_err-found g c =
    let here = here_at c.args.scene.now.facts.now (g.S.Surroundings.told c.args.scene.now.around.now) in
    let s = seen_state c.args.state.now in
    let i = c.args.initialiser.now in
    let to = c.args.receiver in
    let d = c.args.receiver.what in
    let line = (initialiser_span i).line in
    let t = seen_state c.given_by.new.state in
    let first = given_by here to.standing d to.items s i in
    let f = c.in_err-found.field-0.0 in
    record {
      found = passes_failed t c.from_residual.result f _ c.from_residual.ensures.1 (sizes_fail d line (is_other_size to) to.is_too_large first f (given_fails t f (given_kept d first) c.in_err-found.ensures.found));
      grows = err_on _ c.from_residual.result _ _ c.from_residual.ensures.1;
    }

pub returns-in_err-passed-clause-found : goal.returns-in_err-passed-clause-found
returns-in_err-passed-clause-found g c =
    let here = here_at c.args.scene.now.facts.now (g.S.Surroundings.told c.args.scene.now.around.now) in
    let s = seen_state c.args.state.now in
    let i = c.args.initialiser.now in
    let to = c.args.receiver in
    let d = c.args.receiver.what in
    let line = (initialiser_span i).line in
    let t = seen_state c.given_by.new.state in
    let first = given_by here to.standing d to.items s i in
    let g1 = c.given_by.new.given in
    let lines = c.line_of-line.ensures in
    let large = breaks_kept d g1 line 5 (λ (x : Given). refl) to.is_too_large t c.in_ok-found.found c.size_breaks-found.result first (c.size_breaks-found.ensures t ∙ ap (λ (l : ℕ). size_breaks l 5 to.is_too_large (checked t c.in_ok-found.found)) lines) c.in_ok-found.ensures.found in
    let other = breaks_kept d g1 line 2 (λ (x : Given). refl) (is_other_size to) t c.size_breaks-found.result c.size_breaks.result (size_breaks line 5 to.is_too_large first) (c.size_breaks.ensures t ∙ ap₂ (λ (l : ℕ) (b : Bool). size_breaks l 2 b (checked t c.size_breaks-found.result)) lines c.is_other_size-is_other.ensures) large in
    let f = c.in_err-passed.field-0.0 in
    passes_err_on t c.from_residual-in_err-passed.result f _ c.from_residual-in_err-passed.ensures.1 (stopped_kept d g1 t t c.size_breaks.result _ f other (c.in_err-passed.ensures t))
