-- Each is a lemma.
use Rattle.whole_thread.proofs.Wanting.{threads_follow, stops_outside}
use Rattle.whole_thread.proofs.Keeping.{stands_within}
use Rattle.whole_thread.proofs.laws.threads_follow_their_play.Goals as goal

pub returns-clause-follow : goal.returns-clause-follow
returns-clause-follow c = threads_follow

pub returns-clause-outside : goal.returns-clause-outside
returns-clause-outside c = stops_outside

pub returns-clause-within : goal.returns-clause-within
returns-clause-within c = stands_within
