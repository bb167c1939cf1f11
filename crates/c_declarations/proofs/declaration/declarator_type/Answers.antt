-- The derivations are the declarator's.
use Rattle.std.proofs.Common.{◌≡◌, List, All, None, sym, ◌∙◌, subst}
use Rattle.std.specs.Prelude.{IfOk, OnOk, IfErr}
use Rattle.c_types.specs.declared.derivation.Derivation.{Derivation}
use Rattle.c_types.specs.Derivations.{lowest_rule}
use Rattle.c_types.specs.Declarators.{shape_at, IsDerived}
use Rattle.c_types.specs.Whole.{DerivationFits}
use Rattle.c_declarations.specs.Specified.{IsCause}
use Rattle.c_declarations.specs.Declarations.{known_rule}
use Rattle.c_declarations.proofs.declaration.declarator_type.Goals as goal

pub derive_part-requires-clause-lists : goal.derive_part-requires-clause-lists
derive_part-requires-clause-lists c = subst (All (DerivationFits c.args.types.now)) (sym (c.as_slice.ensures.value ∙ c.in-Ok.ensures)) c.requires.lists

pub returns-clause-ty : goal.returns-clause-ty
returns-clause-ty c =
    subst (λ (ds : List Derivation). IfOk c.derive_part.result (IsDerived c.derive_part.new.types c.args.base ds)) (c.as_slice.ensures.value ∙ c.in-Ok.ensures) c.derive_part.ensures.ty

pub returns-clause-fine : goal.returns-clause-fine
returns-clause-fine c =
    subst (λ (ds : List Derivation). OnOk c.derive_part.result (known_rule (lowest_rule (shape_at c.args.types.now c.args.base.number) None ds) ≡ None)) (c.as_slice.ensures.value ∙ c.in-Ok.ensures) c.derive_part.ensures.fine

pub returns-clause-fault : goal.returns-clause-fault
returns-clause-fault c =
    subst (λ (ds : List Derivation). IfErr c.derive_part.result (IsCause (known_rule (lowest_rule (shape_at c.args.types.now c.args.base.number) None ds)))) (c.as_slice.ensures.value ∙ c.in-Ok.ensures) c.derive_part.ensures.fault
