-- Each clause is proved in `Depth.antt`.
use Rattle.tree_play.proofs.Depth.{depth_is_reached, depth_is_passed}
use Rattle.tree_play.proofs.laws.calls_have_a_depth.Goals as goal

pub returns-clause-reached : goal.returns-clause-reached
returns-clause-reached c = depth_is_reached

pub returns-clause-passed : goal.returns-clause-passed
returns-clause-passed c = depth_is_passed
