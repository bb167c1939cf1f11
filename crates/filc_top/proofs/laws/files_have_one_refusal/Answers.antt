-- The law is proved in `Refusals.antt`, from the laws that a list is refused once, spells one tree, and has one answer.
use Rattle.filc_top.proofs.Refusals.{one_of_each}
use Rattle.filc_top.proofs.laws.files_have_one_refusal.Goals as goal

pub returns : goal.returns
returns c = one_of_each c.refusals_are_one.ensures c.files_have_one_tree.ensures c.files_have_one_answer.ensures
