-- A declarator's fault stands at its first token.
use Rattle.std.proofs.Common.{refl, sym, ap, ◌∙◌, subst}
use Rattle.c_declarations.specs.Declarations.{known_rule, derivations_in, IsFaultBy}
use Rattle.c_declarations.proofs.Keeping.{rule_keeps}
use Rattle.c_declarations.proofs.Declaring.{fault_by}
use Rattle.c_declarations.proofs.declaration.declared_by.Goals as goal

pub returns-in-Ok-clause-made : goal.returns-in-Ok-clause-made
returns-in-Ok-clause-made c =
    let found = c.args.found.now in
    let ds = derivations_in found.known found.outermost c.args.declarator.now in
    record {
      of_said = refl;
      ty = c.in-Ok.ensures.ty;
      sound = ap known_rule (rule_keeps c.args.types.now c.declarator_type.new.types c.args.said.ty ds c.declarator_type.ensures.kept c.requires.part) ∙ c.in-Ok.ensures.fine;
      name = refl;
    }

pub returns-in-Err-clause-fault : goal.returns-in-Err-clause-fault
returns-in-Err-clause-fault c =
    subst (IsFaultBy c.args.types.now c.args.said c.args.found.now c.args.declarator.now) (sym c.fault_at.ensures)
    (fault_by c.args.types.now c.args.said c.args.found.now c.args.declarator.now _ c.in-Err.fault refl c.in-Err.ensures.fault)
