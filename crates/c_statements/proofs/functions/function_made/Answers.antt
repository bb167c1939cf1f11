-- Its heading comes first.
use Rattle.std.proofs.Common.{refl, sym, ap₂, ◌∙◌, subst}
use Rattle.std.specs.Prelude.{Err}
use Rattle.c_specifiers.specs.declared.list.Standing.TheVariants as standing
use Rattle.c_expr_rules.specs.Outcomes.{State, Checked, next}
use Rattle.c_expr_rules.specs.Views.{seen_state}
use Rattle.c_expr_rules.specs.Views.{Passes}
use Rattle.c_check_expr.proofs.Outcomes.{behind_passed}
use Rattle.c_check_expr.proofs.Recursion.{passes_same, passes_failed, two_go, second_fails}
use Rattle.c_names.specs.Around.{with_homes}
use Rattle.c_names.specs.Code.{here_at}
use Rattle.c_file_rules.specs.Specifiers.{OneDeclarator, specifiers_said, formed}
use Rattle.c_file_rules.specs.declared.parts.Said.{Said}
use Rattle.c_file_rules.specs.declared.parts.Formed.{Formed}
use Rattle.c_type_parts.specs.Lists.{seen_follows}
use Rattle.c_statements.specs.Bodied.{function_behind, function_checked_at}
use Rattle.c_statements.proofs.functions.function_made.Goals as goal

pub returns-in_err-said : goal.returns-in_err-said
returns-in_err-said g c =
    let here = here_at c.args.scene.now.facts.now (g.S.Surroundings.told c.args.scene.now.around.now) in
    let inner = here_at c.args.scene.now.facts.now (with_homes c.args.homes.now (g.S.Surroundings.told c.args.scene.now.around.now)) in
    let s = seen_state c.args.state.now in
    let f = c.args.function.now in
    let first = specifiers_said here standing.Definition OneDeclarator s f.specifiers in
    let second = λ (s : State). formed here s f.declarator in
    let go = λ (s : State) (said : Said) (u : State) (d : Formed). function_behind here inner f said u d in
    let t = seen_state c.specifiers_said.new.state in
    let at = ap₂ (λ w a. specifiers_said here w (seen_follows a) s f.specifiers) c.place_of-place.ensures.standing c.place_of-place.ensures.follows in
    let fault = c.in_err-said.field-0.0 in
    passes_failed t c.from_residual.result fault _ c.from_residual.ensures.1 (behind_passed t fault first (λ (s : State) (said : Said). next (second s) (λ (u : State) (d : Formed). go s said u d)) (subst (λ (c : Checked Said). Passes {A = Said} t (Err fault) c) at c.in_err-said.ensures.found))

pub returns-in_err-formed : goal.returns-in_err-formed
returns-in_err-formed g c =
    let here = here_at c.args.scene.now.facts.now (g.S.Surroundings.told c.args.scene.now.around.now) in
    let inner = here_at c.args.scene.now.facts.now (with_homes c.args.homes.now (g.S.Surroundings.told c.args.scene.now.around.now)) in
    let s = seen_state c.args.state.now in
    let f = c.args.function.now in
    let first = specifiers_said here standing.Definition OneDeclarator s f.specifiers in
    let second = λ (s : State). formed here s f.declarator in
    let go = λ (s : State) (said : Said) (u : State) (d : Formed). function_behind here inner f said u d in
    let t = seen_state c.specifiers_said.new.state in
    let at = ap₂ (λ w a. specifiers_said here w (seen_follows a) s f.specifiers) c.place_of-place.ensures.standing c.place_of-place.ensures.follows in
    let u = seen_state c.formed.new.state in
    let is_said = sym at ∙ c.in_ok-said.ensures.found in
    let fault = c.in_err-formed.field-0.0 in
    passes_failed u c.from_residual-in_err-formed.result fault _ c.from_residual-in_err-formed.ensures.1 (second_fails first second go t u c.in_ok-said.said fault is_said c.in_err-formed.ensures.found)

pub returns : goal.returns
returns g c =
    let here = here_at c.args.scene.now.facts.now (g.S.Surroundings.told c.args.scene.now.around.now) in
    let inner = here_at c.args.scene.now.facts.now (with_homes c.args.homes.now (g.S.Surroundings.told c.args.scene.now.around.now)) in
    let s = seen_state c.args.state.now in
    let f = c.args.function.now in
    let first = specifiers_said here standing.Definition OneDeclarator s f.specifiers in
    let second = λ (s : State). formed here s f.declarator in
    let go = λ (s : State) (said : Said) (u : State) (d : Formed). function_behind here inner f said u d in
    let t = seen_state c.specifiers_said.new.state in
    let at = ap₂ (λ w a. specifiers_said here w (seen_follows a) s f.specifiers) c.place_of-place.ensures.standing c.place_of-place.ensures.follows in
    let u = seen_state c.formed.new.state in
    let is_said = sym at ∙ c.in_ok-said.ensures.found in
    let v = seen_state c.function_behind.new.state in
    passes_same v c.function_behind.result (function_checked_at here inner s f) (function_behind here inner f c.in_ok-said.said u c.in_ok-formed.formed) (two_go first second go t u c.in_ok-said.said c.in_ok-formed.formed _ is_said c.in_ok-formed.ensures.found refl) c.function_behind.ensures
