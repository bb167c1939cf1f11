-- What is kept of what is given is the statements.
use Rattle.std.proofs.Common.{◌∙◌}
use Rattle.c_expr_rules.specs.Outcomes.{State}
use Rattle.c_expr_rules.specs.Views.{seen_state}
use Rattle.c_check_expr.proofs.Growing.{grows_on, err_on}
use Rattle.c_check_expr.proofs.Outcomes.{next_goes}
use Rattle.c_names.specs.Code.{here_at}
use Rattle.c_file_rules.specs.Declaring.{given_to}
use Rattle.c_file_rules.specs.declared.targets.Given.{Given}
use Rattle.c_statements.specs.Stated.{given_kept, found_by, with_initialiser}
use Rattle.c_statements.proofs.Receiving.{given_by_kept}
use Rattle.c_statements.proofs.Steps.{stops}
use Rattle.c_statements.proofs.declarations.declared_with.Goals as goal

pub returns-in_err-given : goal.returns-in_err-given
returns-in_err-given g c =
    let here = here_at c.args.scene.now.facts.now (g.S.Surroundings.told c.args.scene.now.around.now) in
    let s = seen_state c.args.state.now in
    let i = c.args.initialiser.now in
    let to = c.args.receiver in
    let t = seen_state c.found_by.new.state in
    let first = given_kept to.what (found_by here to s i) in
    let go = λ (s : State) (g : Given). given_to to.what s g in
    let whole = given_by_kept to.what (found_by here to s i) in
    record {
      found = stops t t c.from_residual.result c.in_err-given.field-0.0 (with_initialiser here to s i) first go whole c.from_residual.ensures.1 c.in_err-given.ensures.found;
      grows = err_on _ c.from_residual.result _ _ c.from_residual.ensures.1;
    }

pub returns : goal.returns
returns g c =
    let here = here_at c.args.scene.now.facts.now (g.S.Surroundings.told c.args.scene.now.around.now) in
    let s = seen_state c.args.state.now in
    let i = c.args.initialiser.now in
    let to = c.args.receiver in
    let t = seen_state c.found_by.new.state in
    let first = given_kept to.what (found_by here to s i) in
    let go = λ (s : State) (g : Given). given_to to.what s g in
    let whole = given_by_kept to.what (found_by here to s i) in
    let u = seen_state c.given_to.new.state in
    record {
      found = whole ∙ next_goes first go t c.in_ok-given.given c.in_ok-given.ensures.found ∙ c.in_ok-given_to.ensures.found;
      grows = grows_on _ _ _ c.in_ok-given.ensures.grows c.in_ok-given_to.ensures.grows;
    }
