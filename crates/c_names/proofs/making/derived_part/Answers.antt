-- What isn't of the table makes nothing.
use Rattle.std.proofs.Common.{◌≡◌, ℕ, true, false, sym, ap, ◌∙◌}
use Rattle.c_types.specs.declared.ctype.Part.{Part}
use Rattle.c_types.specs.Extensions.{Table}
use Rattle.c_names.proofs.Unmade.{underived_lists}
use Rattle.c_names.proofs.making.derived_part.Goals as goal

pub returns-else-knows_lists_of-clause-grown : goal.returns-else-knows_lists_of-clause-grown
returns-else-knows_lists_of-clause-grown c =
    ap (λ (made : Table × Part). made.0) (sym (underived_lists c.args.types.now c.args.base c.args.derivations.now (sym c.knows_lists_of.ensures.value ∙ c.if-knows_lists_of.false)))

pub returns-else-knows_lists_of-clause-gives : goal.returns-else-knows_lists_of-clause-gives
returns-else-knows_lists_of-clause-gives c =
    ap (λ (made : Table × Part). made.1) (sym (underived_lists c.args.types.now c.args.base c.args.derivations.now (sym c.knows_lists_of.ensures.value ∙ c.if-knows_lists_of.false)))
