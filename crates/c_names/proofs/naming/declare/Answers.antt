-- A declaration is made in the name space of what is declared, or changes nothing.
use Rattle.std.proofs.Common.{◌≡◌, None, refl, sym, ap, subst}
use Rattle.std.specs.Prelude.{is_none}
use Rattle.std.specs.Option.{IsSomeAnd}
use Rattle.c_scope.specs.declared.space.Space.{Space}
use Rattle.c_scope.specs.Scopes.{with_name, declaration_in}
use Rattle.c_expr_rules.specs.Views.{seen_state}
use Rattle.c_names.proofs.Growth.{grows_by_names}
use Rattle.c_names.proofs.Stating.{fine_state, fine_again, again_state}
use Rattle.c_names.proofs.naming.declare.Goals as goal

pub returns-in-Ok-clause-again : goal.returns-in-Ok-clause-again
returns-in-Ok-clause-again c =
    let old = c.args.state.now.scopes in
    let made = subst (λ (space : Space). IsSomeAnd (declaration_in old space c.args.letters.now c.args.what) (λ d. c.declare.new.self ≡ with_name space (record { name = c.args.letters.now; what = d }) old)) c.space_of.ensures c.in-Ok.ensures.ok in
    fine_again c.args.letters.now c.args.what (seen_state c.args.state.now) c.declare.new.self made

pub returns-in-Ok-clause-state : goal.returns-in-Ok-clause-state
returns-in-Ok-clause-state c =
    let old = c.args.state.now.scopes in
    let made = subst (λ (space : Space). IsSomeAnd (declaration_in old space c.args.letters.now c.args.what) (λ d. c.declare.new.self ≡ with_name space (record { name = c.args.letters.now; what = d }) old)) c.space_of.ensures c.in-Ok.ensures.ok in
    fine_state c.args.letters.now c.args.what (seen_state c.args.state.now) c.declare.new.self made

pub returns-in-Ok-clause-grows : goal.returns-in-Ok-clause-grows
returns-in-Ok-clause-grows c = grows_by_names c.args.state.now c.declare.new.self c.declare.ensures.depth
