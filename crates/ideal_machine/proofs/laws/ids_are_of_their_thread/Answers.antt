use Rattle.ideal_machine.proofs.Makers.{ids_are_of_their_thread}
use Rattle.ideal_machine.proofs.laws.ids_are_of_their_thread.Goals as goal

pub returns : goal.returns
returns c = ids_are_of_their_thread
