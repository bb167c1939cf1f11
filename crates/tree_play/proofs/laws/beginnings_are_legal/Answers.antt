-- The law is proved in `Histories.antt`.
use Rattle.tree_play.proofs.Histories.{beginnings_are_legal}
use Rattle.tree_play.proofs.laws.beginnings_are_legal.Goals as goal

pub returns : goal.returns
returns c = beginnings_are_legal
