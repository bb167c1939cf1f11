-- The load, and an exchange that isn't lost.
use Rattle.thread_slots.proofs.GetLaws.{ends}
use Rattle.thread_slots.proofs.laws.get_byte_alone.Goals as goal

pub returns : goal.returns
returns c l words length laid_out fits = ends l words length laid_out fits
