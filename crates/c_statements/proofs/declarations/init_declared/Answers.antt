-- A declarator's derivations come first, and then its name with its initialiser.
use Rattle.std.proofs.Common.{◌≡◌, ℕ, Bool, List, refl, sym, ap, ap₂, ◌∙◌}
use Rattle.std.specs.Prelude.{Option, Some}
use Rattle.std.specs.Option.{option_copied}
use Rattle.c_syntax.specs.declared.file.Initialiser.{Initialiser}
use Rattle.c_types.specs.declared.derivation.Derivation.{Derivation}
use Rattle.c_expr_rules.specs.Outcomes.{State}
use Rattle.c_expr_rules.specs.Views.{seen_state}
use Rattle.c_check_expr.proofs.Growing.{ok_on, err_on}
use Rattle.c_check_expr.proofs.Outcomes.{next_goes}
use Rattle.c_check_expr.proofs.Recursion.{passes_same}
use Rattle.c_names.specs.Code.{here_at}
use Rattle.c_file_rules.specs.Declarators.{line_of, name_of}
use Rattle.c_file_rules.specs.Declaring.{init_named, init_declared}
use Rattle.c_file_rules.specs.Specifiers.{formed}
use Rattle.c_file_rules.specs.declared.parts.Formed.{Formed}
use Rattle.c_statements.specs.Stated.{name_or_initialised}
use Rattle.c_statements.specs.declared.declaring.Heading.{Heading}
use Rattle.c_statements.proofs.Declared.{init_is}
use Rattle.c_statements.proofs.Steps.{stops}
use Rattle.c_statements.proofs.declarations.init_declared.Goals as goal

pub returns-in_err-formed : goal.returns-in_err-formed
returns-in_err-formed g c =
    let here = here_at c.args.scene.now.facts.now (g.S.Surroundings.told c.args.scene.now.around.now) in
    let s = seen_state c.args.state.now in
    let d = c.args.init.now in
    let first = formed here s d.declarator in
    let go = λ (s : State) (f : Formed). init_named here c.args.standing c.args.said (line_of d.declarator) (name_of d.declarator) s f.derivations d.initialiser in
    let t = seen_state c.formed.new.state in
    record {
      found = stops t t c.from_residual.result c.in_err-formed.field-0.0 (init_declared here c.args.standing c.args.said s d) first go refl c.from_residual.ensures.1 c.in_err-formed.ensures.found;
      grows = err_on _ c.from_residual.result _ _ c.from_residual.ensures.1;
    }

pub returns : goal.returns
returns g c =
    let here = here_at c.args.scene.now.facts.now (g.S.Surroundings.told c.args.scene.now.around.now) in
    let s = seen_state c.args.state.now in
    let d = c.args.init.now in
    let place = c.args.standing in
    let said = c.args.said in
    let first = formed here s d.declarator in
    let go = λ (s : State) (f : Formed). init_named here place said (line_of d.declarator) (name_of d.declarator) s f.derivations d.initialiser in
    let t = seen_state c.formed.new.state in
    let u = seen_state c.init_named.new.state in
    let f = c.in_ok-formed.formed in
    let line = line_of d.declarator in
    let name = c.in-Some.name in
    let named : name_of d.declarator ≡ Some name = cc in
    let heading : Bool → Heading = λ b. record { standing = place; storage = said.storage; line = line; name = name; is_given = b } in
    record {
      found = passes_same u c.init_named.result (init_declared here place said s d) (name_or_initialised here (heading c.is_some.result) said.ty t c.as_slice-derivations.result.now (option_copied c.as_ref.result))
          (next_goes first go t f c.in_ok-formed.ensures.found
          ∙ ap (λ (n : Option ℕ). init_named here place said line n t f.derivations d.initialiser) named
          ∙ init_is here place said line name t f.derivations d.initialiser
          ∙ ap (λ (b : Bool). name_or_initialised here (heading b) said.ty t f.derivations d.initialiser) (sym c.is_some.ensures)
          ∙ ap₂ (λ (ds : List Derivation) (i : Option Initialiser). name_or_initialised here (heading c.is_some.result) said.ty t ds i) (sym c.as_slice-derivations.ensures) (sym c.as_ref.ensures.value))
          c.init_named.ensures.found;
      grows = ok_on c.init_named.result _ _ _ c.in_ok-formed.ensures.grows c.init_named.ensures.grows;
    }
