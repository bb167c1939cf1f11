-- The law is proved in `More.antt`.
use Rattle.tree_play.proofs.More.{more_rounds}
use Rattle.tree_play.proofs.laws.more_rounds_only_add.Goals as goal

pub returns : goal.returns
returns c = more_rounds
