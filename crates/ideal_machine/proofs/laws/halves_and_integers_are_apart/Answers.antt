use Rattle.ideal_machine.proofs.Halves.{integers_leave_halves, halves_leave_integers}
use Rattle.ideal_machine.proofs.laws.halves_and_integers_are_apart.Goals as goal

pub returns-clause-integers : goal.returns-clause-integers
returns-clause-integers c = integers_leave_halves

pub returns-clause-halves : goal.returns-clause-halves
returns-clause-halves c = halves_leave_integers
