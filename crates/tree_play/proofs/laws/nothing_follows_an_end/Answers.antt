-- The law is proved in `EndsLast.antt`.
use Rattle.tree_play.proofs.EndsLast.{nothing_follows}
use Rattle.tree_play.proofs.laws.nothing_follows_an_end.Goals as goal

pub returns : goal.returns
returns c = nothing_follows
