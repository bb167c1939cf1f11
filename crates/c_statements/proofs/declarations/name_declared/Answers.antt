-- The type comes first, and then what it makes of the name.
use Rattle.std.proofs.Common.{Bool, sym, ap, ◌∙◌, subst}
use Rattle.std.specs.Prelude.{Err}
use Rattle.c_types.specs.declared.ctype.Part.{Part}
use Rattle.c_tree.specs.declared.declared.Declared.{Declared}
use Rattle.c_expr_rules.specs.Outcomes.{State, next}
use Rattle.c_expr_rules.specs.Views.{seen_state}
use Rattle.c_expr_rules.specs.Views.{Passes}
use Rattle.c_check_expr.proofs.Growing.{ok_on, err_on}
use Rattle.c_check_expr.proofs.Outcomes.{next_goes, behind_passed, fails_at}
use Rattle.c_check_expr.proofs.Recursion.{passes_same, passes_failed}
use Rattle.c_names.specs.Code.{here_at}
use Rattle.c_file_rules.specs.Declarators.{declarator_type}
use Rattle.c_file_rules.specs.Declaring.{what_declared}
use Rattle.c_statements.specs.Stated.{stated_by_rules, name_again, name_stated}
use Rattle.c_statements.proofs.Declared.{name_is, no_rules}
use Rattle.c_statements.proofs.declarations.name_declared.Goals as goal

pub returns : goal.returns
returns g c =
    let here = here_at c.args.scene.now.facts.now (g.S.Surroundings.told c.args.scene.now.around.now) in
    let s = seen_state c.args.state.now in
    let h = c.args.heading.now in
    let base = c.args.base in
    let ds = c.args.derivations.now in
    let again = name_again here h base s ds in
    let go = λ (s : State) (p : Part). stated_by_rules here h (what_declared here h.standing h.line h.storage h.is_given h.name s p) s p in
    let t = seen_state c.declared_type.new.state in
    let u = seen_state c.stated.new.state in
    let part = c.in_ok-part.part in
    record {
      found = passes_same u c.stated.result (name_stated here h base s ds) (stated_by_rules here h c.in_ok-what.what t part) (name_is here h base s ds ∙ next_goes (declarator_type h.line again s base ds no_rules) go t part (ap (λ (b : Bool). declarator_type h.line b s base ds no_rules) (sym c.in_ok-is_again.ensures) ∙ c.in_ok-part.ensures.found) ∙ ap (λ (w : Declared). stated_by_rules here h w t part) (sym c.in_ok-what.ensures)) c.stated.ensures.found;
      grows = ok_on c.stated.result _ _ _ c.in_ok-part.ensures.grows c.stated.ensures.grows;
    }

pub returns-in_err-part : goal.returns-in_err-part
returns-in_err-part g c =
    let here = here_at c.args.scene.now.facts.now (g.S.Surroundings.told c.args.scene.now.around.now) in
    let s = seen_state c.args.state.now in
    let h = c.args.heading.now in
    let base = c.args.base in
    let ds = c.args.derivations.now in
    let again = name_again here h base s ds in
    let go = λ (s : State) (p : Part). stated_by_rules here h (what_declared here h.standing h.line h.storage h.is_given h.name s p) s p in
    let t = seen_state c.declared_type.new.state in
    let f = c.in_err-part.field-0.0 in
    record {
      found = passes_failed t c.from_residual-in_err-part.result f _ c.from_residual-in_err-part.ensures.1 (fails_at f (name_stated here h base s ds) (next (declarator_type h.line again s base ds no_rules) go) (name_is here h base s ds) (behind_passed t f (declarator_type h.line again s base ds no_rules) go (subst (λ (b : Bool). Passes {A = Part} t (Err f) (declarator_type h.line b s base ds no_rules)) c.in_ok-is_again.ensures c.in_err-part.ensures.found)));
      grows = err_on _ c.from_residual-in_err-part.result _ _ c.from_residual-in_err-part.ensures.1;
    }
