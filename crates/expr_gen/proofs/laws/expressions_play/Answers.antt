-- The law is proved in `Expressions.antt`.
use Rattle.expr_gen.proofs.Expressions.{expressions_play}
use Rattle.expr_gen.proofs.laws.expressions_play.Goals as goal

pub returns : goal.returns
returns c = expressions_play
