use Rattle.ideal_machine.proofs.Stores.{objects_are_whole_first, objects_stay_whole}
use Rattle.ideal_machine.proofs.laws.objects_have_their_words.Goals as goal

pub returns-clause-first : goal.returns-clause-first
returns-clause-first c = objects_are_whole_first

pub returns-clause-stay : goal.returns-clause-stay
returns-clause-stay c = objects_stay_whole
