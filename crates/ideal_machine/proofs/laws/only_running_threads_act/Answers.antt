use Rattle.ideal_machine.proofs.Makers.{only_running_threads_act, main_comes_first}
use Rattle.ideal_machine.proofs.laws.only_running_threads_act.Goals as goal

pub returns-clause-makers : goal.returns-clause-makers
returns-clause-makers c = only_running_threads_act

pub returns-clause-first : goal.returns-clause-first
returns-clause-first c = main_comes_first
