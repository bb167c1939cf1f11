-- The law is proved in `Torn.antt`.
use Rattle.tree_play.proofs.Torn.{torn_is_legal}
use Rattle.tree_play.proofs.laws.a_torn_pair_is_legal.Goals as goal

pub returns : goal.returns
returns c = torn_is_legal
