-- The loads of taken words, and then the exchange and the store.
use Rattle.thread_slots.proofs.PutAlone.{ends}
use Rattle.thread_slots.proofs.laws.put_byte_alone.Goals as goal

pub returns : goal.returns
returns c = ends
