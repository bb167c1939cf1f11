-- A load of each word.
use Rattle.thread_slots.proofs.BeginLaws.{ends}
use Rattle.thread_slots.proofs.laws.begin_thread_alone.Goals as goal

pub returns : goal.returns
returns c = ends
