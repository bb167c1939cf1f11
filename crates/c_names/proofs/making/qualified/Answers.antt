-- What isn't of the table makes nothing.
use Rattle.std.proofs.Common.{◌≡◌, ℕ, true, false, sym, ap, ◌∙◌, subst}
use Rattle.std.specs.Prelude.{IfOk, OnOk}
use Rattle.c_types.specs.declared.ctype.Part.{Part}
use Rattle.c_types.specs.Extensions.{Table}
use Rattle.c_names.proofs.Unmade.{unqualified}
use Rattle.c_names.proofs.Unmade.{qualified_known}
use Rattle.c_names.proofs.making.qualified.Goals as goal

pub returns-else-is_part-clause-grown : goal.returns-else-is_part-clause-grown
returns-else-is_part-clause-grown c =
    ap (λ (made : Table × Part). made.0) (sym (unqualified c.args.types.now c.args.part c.args.set.0 (sym c.is_part.ensures.value ∙ c.if-is_part.false)))

pub returns-else-is_part-clause-gives : goal.returns-else-is_part-clause-gives
returns-else-is_part-clause-gives c =
    ap (λ (made : Table × Part). made.1) (sym (unqualified c.args.types.now c.args.part c.args.set.0 (sym c.is_part.ensures.value ∙ c.if-is_part.false)))

pub returns-then-is_part-clause-grown : goal.returns-then-is_part-clause-grown
returns-then-is_part-clause-grown c =
    subst (λ (made : Table × Part). OnOk c.qualify.result (c.qualify.new.types ≡ made.0)) (sym (qualified_known c.args.types.now c.args.part c.args.set.0 (c.is_part.ensures.there.0 c.if-is_part.true))) c.qualify.ensures.grown

pub returns-then-is_part-clause-gives : goal.returns-then-is_part-clause-gives
returns-then-is_part-clause-gives c =
    subst (λ (made : Table × Part). IfOk c.qualify.result (λ x. x ≡ made.1)) (sym (qualified_known c.args.types.now c.args.part c.args.set.0 (c.is_part.ensures.there.0 c.if-is_part.true))) c.qualify.ensures.gives
