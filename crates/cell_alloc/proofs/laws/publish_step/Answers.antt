-- A store to each part, in order.
use Rattle.cell_alloc.proofs.PublishSteps.{starts, steps, keeps}
use Rattle.cell_alloc.proofs.laws.publish_step.Goals as goal

pub returns-clause-starts : goal.returns-clause-starts
returns-clause-starts c = starts

pub returns-clause-steps : goal.returns-clause-steps
returns-clause-steps c = steps

pub returns-clause-keeps : goal.returns-clause-keeps
returns-clause-keeps c = keeps
