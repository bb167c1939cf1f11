-- Each is a lemma.
use Rattle.whole_thread.proofs.Wanting.{begin_follows}
use Rattle.whole_thread.proofs.Keeping.{threads_stay, rounds_stay}
use Rattle.whole_thread.proofs.laws.threads_stay_as_they_begin.Goals as goal

pub returns-clause-begin : goal.returns-clause-begin
returns-clause-begin c = begin_follows

pub returns-clause-stay : goal.returns-clause-stay
returns-clause-stay c = threads_stay

pub returns-clause-rounds : goal.returns-clause-rounds
returns-clause-rounds c = rounds_stay
