use Rattle.ideal_machine.proofs.Growth.{events_only_add}
use Rattle.ideal_machine.proofs.laws.events_only_add.Goals as goal

pub returns : goal.returns
returns c = events_only_add
