-- The law is proved in `Refusals.antt`, from the same laws.
use Rattle.filc_top.proofs.Refusals.{none_of_programs}
use Rattle.filc_top.proofs.laws.programs_are_not_refused.Goals as goal

pub returns : goal.returns
returns c = none_of_programs c.refusals_are_one.ensures c.files_have_one_tree.ensures c.files_have_one_answer.ensures
