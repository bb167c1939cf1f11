-- What the words say, the list says.
use Rattle.std.proofs.Common.{◌≡◌, Option, None, subst}
use Rattle.std.specs.Prelude.{OnOk, IfErr}
use Rattle.c_rules.specs.declared.rule.Rule.{Rule}
use Rattle.c_declarations.specs.Specified.{IsSaid, IsSpecified, IsCause}
use Rattle.c_declarations.proofs.Outcomes.{if_ok}
use Rattle.c_declarations.proofs.Specifying.{rule_of_list, said_of_list}
use Rattle.c_declarations.proofs.specifier_list.specification_of.Goals as goal

pub returns-in-Ok-clause-said : goal.returns-in-Ok-clause-said
returns-in-Ok-clause-said c =
    let w = c.in-Ok.words in
    if_ok c.said_by.result (IsSaid c.said_by.new.types c.args.whole w.storage w.named w.set c.args.specifiers.now) (IsSpecified c.said_by.new.types c.args.standing c.args.specifiers.now c.args.whole)
    (said_of_list c.said_by.new.types c.args.standing c.args.specifiers.now c.args.whole w c.in-Ok.ensures) c.said_by.ensures.said

pub returns-in-Ok-clause-fine : goal.returns-in-Ok-clause-fine
returns-in-Ok-clause-fine c =
    subst (λ (o : Option Rule). OnOk c.said_by.result (o ≡ None)) (rule_of_list c.args.types.now c.args.standing c.args.specifiers.now c.args.whole c.in-Ok.words c.in-Ok.ensures) c.said_by.ensures.fine

pub returns-in-Ok-clause-fault : goal.returns-in-Ok-clause-fault
returns-in-Ok-clause-fault c =
    subst (λ (o : Option Rule). IfErr c.said_by.result (IsCause o)) (rule_of_list c.args.types.now c.args.standing c.args.specifiers.now c.args.whole c.in-Ok.words c.in-Ok.ensures) c.said_by.ensures.fault
