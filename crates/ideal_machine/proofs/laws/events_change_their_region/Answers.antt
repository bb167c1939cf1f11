use Rattle.ideal_machine.proofs.Regions.{events_change_their_region}
use Rattle.ideal_machine.proofs.laws.events_change_their_region.Goals as goal

pub returns : goal.returns
returns c = events_change_their_region
