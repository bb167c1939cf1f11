-- Each is a lemma.
use Rattle.whole_thread.proofs.Following.{lock_round_follows, exchange_round_follows}
use Rattle.whole_thread.proofs.Wanting.{code_goes_on_here}
use Rattle.whole_thread.proofs.laws.rounds_go_on_behind_their_check.Goals as goal

pub returns-clause-lock : goal.returns-clause-lock
returns-clause-lock c = lock_round_follows

pub returns-clause-exchange : goal.returns-clause-exchange
returns-clause-exchange c = exchange_round_follows

pub returns-clause-here : goal.returns-clause-here
returns-clause-here c = code_goes_on_here
