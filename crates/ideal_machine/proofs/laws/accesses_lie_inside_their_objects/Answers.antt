use Rattle.ideal_machine.proofs.Inside.{accesses_lie_inside, halves_lie_inside}
use Rattle.ideal_machine.proofs.laws.accesses_lie_inside_their_objects.Goals as goal

pub returns-clause-bytes : goal.returns-clause-bytes
returns-clause-bytes c = accesses_lie_inside

pub returns-clause-halves : goal.returns-clause-halves
returns-clause-halves c = halves_lie_inside
