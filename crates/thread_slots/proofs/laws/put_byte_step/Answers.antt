-- The load of the hint, of a word, the exchange, and the store of the hint.
use Rattle.thread_slots.proofs.PutSteps.{starts, steps, keeps}
use Rattle.thread_slots.proofs.laws.put_byte_step.Goals as goal

pub returns-clause-starts : goal.returns-clause-starts
returns-clause-starts c = starts

pub returns-clause-steps : goal.returns-clause-steps
returns-clause-steps c = steps

pub returns-clause-keeps : goal.returns-clause-keeps
returns-clause-keeps c = keeps
