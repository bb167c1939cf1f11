-- The law is proved in `Statements.antt`.
use Rattle.stmt_gen.proofs.Statements.{statements_play}
use Rattle.stmt_gen.proofs.laws.statements_play.Goals as goal

pub returns : goal.returns
returns c = statements_play
