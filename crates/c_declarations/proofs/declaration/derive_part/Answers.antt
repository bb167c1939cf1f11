-- A fault of the table of types is one of the checker.
use Rattle.std.proofs.Common.{None, sym, ap, subst}
use Rattle.c_types.specs.Derivations.{lowest_rule}
use Rattle.c_types.specs.Declarators.{shape_at}
use Rattle.c_declarations.specs.Specified.{IsCause}
use Rattle.c_declarations.specs.Declarations.{known_rule}
use Rattle.c_declarations.proofs.Declaring.{cause_of}
use Rattle.c_declarations.proofs.declaration.derive_part.Goals as goal

pub returns-in-Ok-clause-fine : goal.returns-in-Ok-clause-fine
returns-in-Ok-clause-fine c = ap known_rule c.in-Ok.ensures.fine

pub returns-in-Err-clause-fault : goal.returns-in-Err-clause-fault
returns-in-Err-clause-fault c =
    let broken = lowest_rule (shape_at c.args.types.now c.args.base.number) None c.args.derivations.now in
    subst (IsCause (known_rule broken)) (sym c.fault_of.ensures) (cause_of broken c.in-Err.fault c.in-Err.ensures.fault)
