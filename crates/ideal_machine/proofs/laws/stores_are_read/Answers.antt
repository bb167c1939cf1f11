use Rattle.ideal_machine.proofs.Stores.{stored_integers_are_read, other_integers_stay, stored_halves_are_found, other_halves_stay}
use Rattle.ideal_machine.proofs.laws.stores_are_read.Goals as goal

pub returns-clause-integers : goal.returns-clause-integers
returns-clause-integers c = stored_integers_are_read

pub returns-clause-other_integers : goal.returns-clause-other_integers
returns-clause-other_integers c = other_integers_stay

pub returns-clause-halves : goal.returns-clause-halves
returns-clause-halves c = stored_halves_are_found

pub returns-clause-other_halves : goal.returns-clause-other_halves
returns-clause-other_halves c = other_halves_stay
