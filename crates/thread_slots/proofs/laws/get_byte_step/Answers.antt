-- The load of the input count, and the exchange.
use Rattle.thread_slots.proofs.GetLaws.{steps, tells_end}
use Rattle.thread_slots.proofs.laws.get_byte_step.Goals as goal

pub returns-clause-steps : goal.returns-clause-steps
returns-clause-steps c = steps

pub returns-clause-end : goal.returns-clause-end
returns-clause-end c piece answer = tells_end piece.length piece.found answer
