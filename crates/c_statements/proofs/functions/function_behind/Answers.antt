-- A body is looked at behind its declarator.
use Rattle.std.proofs.Common.{◌≡◌, ℕ, Bool, List, sym, ap, ap₂, ◌∙◌, subst}
use Rattle.std.specs.Prelude.{Err}
use Rattle.c_types.specs.declared.ctype.Part.{Part}
use Rattle.c_types.specs.declared.derivation.Derivation.{Derivation}
use Rattle.c_expr_rules.specs.Outcomes.{State, Checked, Fine, next}
use Rattle.c_expr_rules.specs.Views.{seen_state}
use Rattle.c_expr_rules.specs.Views.{Passes}
use Rattle.c_check_expr.proofs.Outcomes.{next_goes, behind_passed, fails_at}
use Rattle.c_check_expr.proofs.Recursion.{passes_same, passes_failed}
use Rattle.c_names.specs.Around.{with_homes}
use Rattle.c_names.specs.Code.{here_at}
use Rattle.c_file_rules.specs.Declarators.{declarator_type, line_of}
use Rattle.c_statements.specs.Bodied.{body_of, stated_before_body, heading_of, function_behind}
use Rattle.c_statements.specs.Stated.{name_again}
use Rattle.c_statements.proofs.Declared.{no_rules}
use Rattle.c_statements.proofs.Steps.{goes_fails}
use Rattle.c_statements.proofs.functions.function_behind.Goals as goal

pub returns-in_err-part : goal.returns-in_err-part
returns-in_err-part g c =
    let here = here_at c.args.scene.now.facts.now (g.S.Surroundings.told c.args.scene.now.around.now) in
    let inner = here_at c.args.scene.now.facts.now (with_homes c.args.homes.now (g.S.Surroundings.told c.args.scene.now.around.now)) in
    let s = seen_state c.args.state.now in
    let f = c.args.function.now in
    let said = c.args.said in
    let d = c.args.formed.now in
    let line = line_of f.declarator in
    let n = c.name_or_zero.result in
    let h = heading_of line n said in
    let again = name_again here h said.ty s d.derivations in
    let go = λ (s : State) (p : Part). next (stated_before_body here h f.declarator s p) (λ (s : State) (none : Unit {0}). body_of inner f p d.prototype s) in
    let first = declarator_type line again s said.ty d.derivations no_rules in
    let by_name = λ (n : ℕ). next (declarator_type line (name_again here (heading_of line n said) said.ty s d.derivations) s said.ty d.derivations no_rules) (λ (s : State) (p : Part). next (stated_before_body here (heading_of line n said) f.declarator s p) (λ (s : State) (none : Unit {0}). body_of inner f p d.prototype s)) in
    let whole : function_behind here inner f said s d ≡ next first go = ap by_name (sym c.name_or_zero.ensures) in
    let ds = c.as_slice-derivations.result.now in
    let listed = c.as_slice-derivations.ensures in
    let is_again = c.in_ok-is_again.ensures ∙ ap (λ (ds : List Derivation). name_again here h said.ty s ds) listed in
    let typed = ap₂ (λ (b : Bool) (ds : List Derivation). declarator_type line b s said.ty ds no_rules) is_again listed in
    let t = seen_state c.declared_type.new.state in
    let fault = c.in_err-part.field-0.0 in
    passes_failed t c.from_residual-in_err-part.result fault _ c.from_residual-in_err-part.ensures.1 (fails_at fault (function_behind here inner f said s d) (next first go) whole (behind_passed t fault first go (subst (λ (c : Checked Part). Passes {A = Part} t (Err fault) c) typed c.in_err-part.ensures.found)))

pub returns-in_err-stated_before_body : goal.returns-in_err-stated_before_body
returns-in_err-stated_before_body g c =
    let here = here_at c.args.scene.now.facts.now (g.S.Surroundings.told c.args.scene.now.around.now) in
    let inner = here_at c.args.scene.now.facts.now (with_homes c.args.homes.now (g.S.Surroundings.told c.args.scene.now.around.now)) in
    let s = seen_state c.args.state.now in
    let f = c.args.function.now in
    let said = c.args.said in
    let d = c.args.formed.now in
    let line = line_of f.declarator in
    let n = c.name_or_zero.result in
    let h = heading_of line n said in
    let again = name_again here h said.ty s d.derivations in
    let go = λ (s : State) (p : Part). next (stated_before_body here h f.declarator s p) (λ (s : State) (none : Unit {0}). body_of inner f p d.prototype s) in
    let first = declarator_type line again s said.ty d.derivations no_rules in
    let by_name = λ (n : ℕ). next (declarator_type line (name_again here (heading_of line n said) said.ty s d.derivations) s said.ty d.derivations no_rules) (λ (s : State) (p : Part). next (stated_before_body here (heading_of line n said) f.declarator s p) (λ (s : State) (none : Unit {0}). body_of inner f p d.prototype s)) in
    let whole : function_behind here inner f said s d ≡ next first go = ap by_name (sym c.name_or_zero.ensures) in
    let ds = c.as_slice-derivations.result.now in
    let listed = c.as_slice-derivations.ensures in
    let is_again = c.in_ok-is_again.ensures ∙ ap (λ (ds : List Derivation). name_again here h said.ty s ds) listed in
    let typed = ap₂ (λ (b : Bool) (ds : List Derivation). declarator_type line b s said.ty ds no_rules) is_again listed in
    let t = seen_state c.declared_type.new.state in
    let part = c.in_ok-part.part in
    let is_typed : first ≡ Fine t part = sym typed ∙ c.in_ok-part.ensures.found in
    let second = stated_before_body here h f.declarator t part in
    let go2 = λ (s : State) (none : Unit {0}). body_of inner f part d.prototype s in
    let u = seen_state c.stated_before_body.new.state in
    let fault = c.in_err-stated_before_body.field-0.0 in
    passes_failed u c.from_residual-in_err-stated_before_body.result fault _ c.from_residual-in_err-stated_before_body.ensures.1 (fails_at fault (function_behind here inner f said s d) (next first go) whole (goes_fails fault first go t part is_typed (behind_passed u fault second go2 c.in_err-stated_before_body.ensures)))

pub returns : goal.returns
returns g c =
    let here = here_at c.args.scene.now.facts.now (g.S.Surroundings.told c.args.scene.now.around.now) in
    let inner = here_at c.args.scene.now.facts.now (with_homes c.args.homes.now (g.S.Surroundings.told c.args.scene.now.around.now)) in
    let s = seen_state c.args.state.now in
    let f = c.args.function.now in
    let said = c.args.said in
    let d = c.args.formed.now in
    let line = line_of f.declarator in
    let n = c.name_or_zero.result in
    let h = heading_of line n said in
    let again = name_again here h said.ty s d.derivations in
    let go = λ (s : State) (p : Part). next (stated_before_body here h f.declarator s p) (λ (s : State) (none : Unit {0}). body_of inner f p d.prototype s) in
    let first = declarator_type line again s said.ty d.derivations no_rules in
    let by_name = λ (n : ℕ). next (declarator_type line (name_again here (heading_of line n said) said.ty s d.derivations) s said.ty d.derivations no_rules) (λ (s : State) (p : Part). next (stated_before_body here (heading_of line n said) f.declarator s p) (λ (s : State) (none : Unit {0}). body_of inner f p d.prototype s)) in
    let whole : function_behind here inner f said s d ≡ next first go = ap by_name (sym c.name_or_zero.ensures) in
    let ds = c.as_slice-derivations.result.now in
    let listed = c.as_slice-derivations.ensures in
    let is_again = c.in_ok-is_again.ensures ∙ ap (λ (ds : List Derivation). name_again here h said.ty s ds) listed in
    let typed = ap₂ (λ (b : Bool) (ds : List Derivation). declarator_type line b s said.ty ds no_rules) is_again listed in
    let t = seen_state c.declared_type.new.state in
    let part = c.in_ok-part.part in
    let is_typed : first ≡ Fine t part = sym typed ∙ c.in_ok-part.ensures.found in
    let second = stated_before_body here h f.declarator t part in
    let go2 = λ (s : State) (none : Unit {0}). body_of inner f part d.prototype s in
    let u = seen_state c.stated_before_body.new.state in
    let v = seen_state c.body_made.new.state in
    passes_same v c.body_made.result (function_behind here inner f said s d) (body_of inner f part d.prototype u) (whole ∙ next_goes first go t part is_typed ∙ next_goes second go2 u tt c.in_ok-stated_before_body.ensures) c.body_made.ensures
