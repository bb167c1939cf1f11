use Rattle.ideal_machine.proofs.There.{halves_are_there_first, halves_stay_there, answers_name_objects}
use Rattle.ideal_machine.proofs.laws.halves_name_objects_that_are_there.Goals as goal

pub returns-clause-first : goal.returns-clause-first
returns-clause-first c = halves_are_there_first

pub returns-clause-stay : goal.returns-clause-stay
returns-clause-stay c = halves_stay_there

pub returns-clause-answers : goal.returns-clause-answers
returns-clause-answers c = answers_name_objects
