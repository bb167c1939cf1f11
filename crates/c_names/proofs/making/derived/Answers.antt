-- What isn't of the table makes nothing.
use Rattle.std.proofs.Common.{◌≡◌, ℕ, true, false, sym, ap, ◌∙◌}
use Rattle.c_types.specs.declared.ctype.Part.{Part}
use Rattle.c_types.specs.Extensions.{Table}
use Rattle.c_names.proofs.Unmade.{underived_part}
use Rattle.c_names.proofs.making.derived.Goals as goal

pub returns-else-is_part-clause-grown : goal.returns-else-is_part-clause-grown
returns-else-is_part-clause-grown c =
    ap (λ (made : Table × Part). made.0) (sym (underived_part c.args.types.now c.args.base c.args.derivations.now (sym c.is_part.ensures.value ∙ c.if-is_part.false)))

pub returns-else-is_part-clause-gives : goal.returns-else-is_part-clause-gives
returns-else-is_part-clause-gives c =
    ap (λ (made : Table × Part). made.1) (sym (underived_part c.args.types.now c.args.base c.args.derivations.now (sym c.is_part.ensures.value ∙ c.if-is_part.false)))
