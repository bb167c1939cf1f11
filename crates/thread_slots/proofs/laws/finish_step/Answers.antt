-- The exchange.
use Rattle.thread_slots.proofs.EndLaws.{steps}
use Rattle.thread_slots.proofs.laws.finish_step.Goals as goal

pub returns-clause-steps : goal.returns-clause-steps
returns-clause-steps c l words piece laid_out is = steps l words laid_out piece is
