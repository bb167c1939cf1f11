-- A name is declared, with its initialiser where it has one.
use Rattle.std.proofs.Common.{◌≡◌, List, [], sym, ap, ◌∙◌}
use Rattle.std.specs.Prelude.{Some, None}
use Rattle.c_types.specs.declared.ctype.Part.{Part}
use Rattle.c_tree.specs.declared.declared.Declared.{Declared}
use Rattle.c_tree.specs.declared.stmt.Stmt.{Stmt}
use Rattle.c_expr_rules.specs.Outcomes.{State, Checked, Fine}
use Rattle.c_expr_rules.specs.Views.{seen_state}
use Rattle.c_check_expr.proofs.Growing.{err_on}
use Rattle.c_check_expr.proofs.Outcomes.{next_goes}
use Rattle.c_check_expr.proofs.Recursion.{passes_same}
use Rattle.c_names.specs.Code.{here_at}
use Rattle.c_statements.specs.Stated.{name_stated, name_or_initialised}
use Rattle.c_statements.proofs.Steps.{stops}
use Rattle.std.specs.Option.{option_copied}
use Rattle.c_statements.proofs.declarations.init_named.Goals as goal

pub returns-in_ok-name_declared-in-None : goal.returns-in_ok-name_declared-in-None
returns-in_ok-name_declared-in-None g c =
    let here = here_at c.args.scene.now.facts.now (g.S.Surroundings.told c.args.scene.now.around.now) in
    let s = seen_state c.args.state.now in
    let h = c.args.heading.now in
    let base = c.args.base in
    let ds = c.args.derivations.now in
    let go : State → Declared × Part → Checked (List Stmt) = λ s d. Fine s [] in
    let none : option_copied c.args.initialiser ≡ None = cc in
    let t = seen_state c.name_declared.new.state in
    record {
      found = ap (name_or_initialised here h base s ds) none ∙ next_goes (name_stated here h base s ds) go t c.in_ok-name_declared-in-None.field-0 c.in_ok-name_declared-in-None.ensures.found ∙ ap (λ (l : List Stmt). Fine t l) (sym c.new.ensures);
      grows = c.in_ok-name_declared-in-None.ensures.grows;
    }

pub returns-in_err-name_declared-in-None : goal.returns-in_err-name_declared-in-None
returns-in_err-name_declared-in-None g c =
    let here = here_at c.args.scene.now.facts.now (g.S.Surroundings.told c.args.scene.now.around.now) in
    let s = seen_state c.args.state.now in
    let h = c.args.heading.now in
    let base = c.args.base in
    let ds = c.args.derivations.now in
    let go : State → Declared × Part → Checked (List Stmt) = λ s d. Fine s [] in
    let none : option_copied c.args.initialiser ≡ None = cc in
    let t = seen_state c.name_declared.new.state in
    let f = c.in_err-name_declared-in-None.field-0.0 in
    record {
      found = stops t t c.from_residual.result f (name_or_initialised here h base s ds (option_copied c.args.initialiser)) (name_stated here h base s ds) go (ap (name_or_initialised here h base s ds) none) c.from_residual.ensures.1 c.in_err-name_declared-in-None.ensures.found;
      grows = err_on _ c.from_residual.result _ _ c.from_residual.ensures.1;
    }

pub returns-in-Some : goal.returns-in-Some
returns-in-Some g c =
    let here = here_at c.args.scene.now.facts.now (g.S.Surroundings.told c.args.scene.now.around.now) in
    let s = seen_state c.args.state.now in
    let h = c.args.heading.now in
    let base = c.args.base in
    let ds = c.args.derivations.now in
    let go : State → Declared × Part → Checked (List Stmt) = λ s d. Fine s [] in
    let some : option_copied c.args.initialiser ≡ Some c.in-Some.initialiser.now = cc in
    let t = seen_state c.initialised_name.new.state in
    record {
      found = passes_same t c.initialised_name.result _ _ (ap (name_or_initialised here h base s ds) some) c.initialised_name.ensures.found;
      grows = c.initialised_name.ensures.grows;
    }
