-- The law is proved in `Gapless.antt`.
use Rattle.tree_play.proofs.Gapless.{programs_are_gapless}
use Rattle.tree_play.proofs.laws.programs_are_gapless.Goals as goal

pub returns : goal.returns
returns c = programs_are_gapless
