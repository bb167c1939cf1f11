-- Each is found by computing.
use Rattle.std.proofs.Common.{refl}
use Rattle.stmt_gen.proofs.laws.worked_code_of_statements.Goals as goal

pub returns-clause-block : goal.returns-clause-block
returns-clause-block c = refl

pub returns-clause-choice : goal.returns-clause-choice
returns-clause-choice c = refl

pub returns-clause-while_loop : goal.returns-clause-while_loop
returns-clause-while_loop c = refl

pub returns-clause-for_loop : goal.returns-clause-for_loop
returns-clause-for_loop c = refl

pub returns-clause-switch : goal.returns-clause-switch
returns-clause-switch c = refl
