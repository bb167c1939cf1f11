-- The exchange.
use Rattle.thread_slots.proofs.EndLaws.{ends}
use Rattle.thread_slots.proofs.laws.finish_alone.Goals as goal

pub returns : goal.returns
returns c = ends
