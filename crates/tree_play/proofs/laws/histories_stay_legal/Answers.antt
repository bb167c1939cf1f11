-- The law is proved in `Histories.antt`.
use Rattle.tree_play.proofs.Histories.{histories_stay_legal}
use Rattle.tree_play.proofs.laws.histories_stay_legal.Goals as goal

pub returns : goal.returns
returns c = histories_stay_legal
