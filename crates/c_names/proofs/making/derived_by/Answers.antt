-- What breaks a rule makes nothing.
use Rattle.std.proofs.Common.{◌≡◌, None, sym, ap, ◌∙◌}
use Rattle.std.specs.Prelude.{is_some}
use Rattle.c_types.specs.declared.ctype.Part.{Part}
use Rattle.c_types.specs.Extensions.{Table}
use Rattle.c_types.specs.Declarators.{shape_at}
use Rattle.c_types.specs.Derivations.{lowest_rule}
use Rattle.c_types.proofs.Guards.{derived_known}
use Rattle.c_names.proofs.Unmade.{underived_rule, some_not_none}
use Rattle.c_names.proofs.making.derived_by.Goals as goal

pub returns-in-Ok-clause-gives : goal.returns-in-Ok-clause-gives
returns-in-Ok-clause-gives c =
    c.in-Ok.ensures.gives ∙ ap (λ (made : Table × Part). made.1) (sym (derived_known c.args.types.now c.args.base c.args.derivations.now c.requires.part c.requires.lists c.in-Ok.ensures.fine))

pub returns-in-Ok-clause-grown : goal.returns-in-Ok-clause-grown
returns-in-Ok-clause-grown c =
    c.in-Ok.ensures.grown ∙ ap (λ (made : Table × Part). made.0) (sym (derived_known c.args.types.now c.args.base c.args.derivations.now c.requires.part c.requires.lists c.in-Ok.ensures.fine))

pub returns-then-is_some-clause-gives : goal.returns-then-is_some-clause-gives
returns-then-is_some-clause-gives c =
    let rule = lowest_rule (shape_at c.args.types.now c.args.base.number) None c.args.derivations.now in
    let broken = some_not_none rule (ap is_some (sym c.type_rule.ensures) ∙ sym c.is_some.ensures ∙ c.if-is_some.true) in
    ap (λ (made : Table × Part). made.1) (sym (underived_rule c.args.types.now c.args.base c.args.derivations.now broken))

pub returns-then-is_some-clause-grown : goal.returns-then-is_some-clause-grown
returns-then-is_some-clause-grown c =
    let rule = lowest_rule (shape_at c.args.types.now c.args.base.number) None c.args.derivations.now in
    let broken = some_not_none rule (ap is_some (sym c.type_rule.ensures) ∙ sym c.is_some.ensures ∙ c.if-is_some.true) in
    ap (λ (made : Table × Part). made.0) (sym (underived_rule c.args.types.now c.args.base c.args.derivations.now broken))
