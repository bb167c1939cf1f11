use Rattle.ideal_machine.proofs.Ends.{events_keep_ends}
use Rattle.ideal_machine.proofs.laws.events_keep_ends.Goals as goal

pub returns : goal.returns
returns c = events_keep_ends
