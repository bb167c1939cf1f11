use Rattle.ideal_machine.proofs.ObjectsApart.{statics_are_apart, objects_stay_apart}
use Rattle.ideal_machine.proofs.laws.objects_in_use_share_no_byte.Goals as goal

pub returns-clause-first : goal.returns-clause-first
returns-clause-first c = statics_are_apart

pub returns-clause-stay : goal.returns-clause-stay
returns-clause-stay c = objects_stay_apart
