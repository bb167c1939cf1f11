use Rattle.std.proofs.Common.{◌≡◌, sym, ap, ◌∙◌, subst}
use Rattle.std.specs.Prelude.{Err}
use Rattle.c_parts.specs.Scopes.{outer_scopes, with_scopes}
use Rattle.c_parts.specs.Reading.{Took}
use Rattle.c_cursor.specs.Input.{Gives, answer}
use Rattle.c_syntax.specs.Grammar.{inner, optional_parameters}
use Rattle.c_expr_parser.proofs.Collected.{outer_room, collected_took, collected_failed}
use Rattle.c_expr_parser.proofs.grammar.Grammar.collected_parameters.Goals as goal

pub returns-in_err-parameters : goal.returns-in_err-parameters
returns-in_err-parameters g c =
    collected_failed c.args.self.now.room c.args.cursor.now c.optional_parameters.new.cursor c.from_residual-in_err-parameters.result c.in_err-parameters.field-0.0 c.from_residual-in_err-parameters.ensures.1
    (subst (λ i. Gives (answer (optional_parameters (inner c.args.self.now.room)).read i) (Err c.in_err-parameters.field-0.0) c.optional_parameters.new.cursor) c.in_ok-enter.ensures.entered c.in_err-parameters.ensures)

pub close-requires : goal.close-requires
close-requires g c =
    outer_room c.args.self.now.room c.args.cursor.now.state c.args.cursor.now.rest c.optional_parameters.new.cursor.rest c.in_ok-parameters.parameters c.optional_parameters.new.cursor.state
    (subst (λ i. answer (optional_parameters (inner c.args.self.now.room)).read i ≡ Took c.in_ok-parameters.parameters c.optional_parameters.new.cursor.rest c.optional_parameters.new.cursor.state)
    c.in_ok-enter.ensures.entered c.in_ok-parameters.ensures)
    c.enter.ensures.some

pub returns : goal.returns
returns g c =
    collected_took c.args.self.now.room c.args.cursor.now.state c.args.cursor.now.rest c.optional_parameters.new.cursor.rest c.in_ok-parameters.parameters c.optional_parameters.new.cursor.state
    (subst (λ i. answer (optional_parameters (inner c.args.self.now.room)).read i ≡ Took c.in_ok-parameters.parameters c.optional_parameters.new.cursor.rest c.optional_parameters.new.cursor.state)
    c.in_ok-enter.ensures.entered c.in_ok-parameters.ensures)
    ∙ ap (λ s. Took (c.in_ok-parameters.parameters, s) c.optional_parameters.new.cursor.rest (with_scopes c.optional_parameters.new.cursor.state (outer_scopes c.optional_parameters.new.cursor.state.scopes)))
    (sym c.in_ok-scope.ensures.scope)
    ∙ ap (λ i. Took (c.in_ok-parameters.parameters, c.in_ok-scope.scope) i.rest i.state) (sym c.in_ok-scope.ensures.left)
