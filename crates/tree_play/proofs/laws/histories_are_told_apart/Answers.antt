-- Each clause is proved in `Legality.antt`.
use Rattle.tree_play.proofs.Legality.{exit_is_the_return, rounds_are_bounded, others_go_on, others_read_an_object, slots_are_used_again, freed_may_be_shown}
use Rattle.tree_play.proofs.laws.histories_are_told_apart.Goals as goal

pub returns-clause-exit : goal.returns-clause-exit
returns-clause-exit c = exit_is_the_return

pub returns-clause-rounds : goal.returns-clause-rounds
returns-clause-rounds c = rounds_are_bounded

pub returns-clause-others : goal.returns-clause-others
returns-clause-others c = others_go_on

pub returns-clause-slots : goal.returns-clause-slots
returns-clause-slots c = slots_are_used_again

pub returns-clause-freed : goal.returns-clause-freed
returns-clause-freed c = freed_may_be_shown

pub returns-clause-objects : goal.returns-clause-objects
returns-clause-objects c = others_read_an_object
