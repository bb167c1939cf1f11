-- A load of each word.
use Rattle.thread_slots.proofs.BeginLaws.{starts, steps, keeps}
use Rattle.thread_slots.proofs.laws.begin_thread_step.Goals as goal

pub returns-clause-starts : goal.returns-clause-starts
returns-clause-starts c = starts

pub returns-clause-steps : goal.returns-clause-steps
returns-clause-steps c = steps

pub returns-clause-keeps : goal.returns-clause-keeps
returns-clause-keeps c = keeps
