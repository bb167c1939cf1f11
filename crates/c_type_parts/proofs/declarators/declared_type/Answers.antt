-- A declarator's own type, or the rule that its derivations break.
use Rattle.std.proofs.Common.{[]}
use Rattle.c_expr_rules.specs.Views.{seen_state}
use Rattle.c_type_parts.proofs.Declaring.{type_broken, type_is_made}
use Rattle.c_type_parts.proofs.declarators.declared_type.Goals as goal

pub returns-in-Some-clause-found : goal.returns-in-Some-clause-found
returns-in-Some-clause-found c =
    type_broken (seen_state c.args.state.now) c.args.line c.args.is_again c.args.base c.args.derivations.now c.in-Some.broken c.obey.result (λ s p. [])
    c.in-Some.ensures c.obey.ensures

pub returns-in_ok-derived-in-None-clause-found : goal.returns-in_ok-derived-in-None-clause-found
returns-in_ok-derived-in-None-clause-found c =
    type_is_made (seen_state c.args.state.now) c.args.line c.args.is_again c.args.base c.in_ok-derived-in-None.field-0 c.args.derivations.now c.derived.new.types
    c.in-None.ensures c.in_ok-derived-in-None.ensures.grown c.in_ok-derived-in-None.ensures.gives
