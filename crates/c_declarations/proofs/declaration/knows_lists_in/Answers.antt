-- The derivations are the declarator's.
use Rattle.std.proofs.Common.{List, All, IsTrue, ◌∙◌, subst}
use Rattle.std.specs.Prelude.{◌↔◌}
use Rattle.c_types.specs.declared.derivation.Derivation.{Derivation}
use Rattle.c_types.specs.Whole.{DerivationFits}
use Rattle.c_declarations.proofs.declaration.knows_lists_in.Goals as goal

pub returns : goal.returns
returns c =
    subst (λ (ds : List Derivation). IsTrue c.knows_lists_of.result ↔ All (DerivationFits c.args.types.now) ds) (c.as_slice.ensures.value ∙ c.in_ok-derivations.ensures) c.knows_lists_of.ensures.there
