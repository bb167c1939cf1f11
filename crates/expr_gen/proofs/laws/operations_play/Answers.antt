-- The law is proved in `Operations.antt`.
use Rattle.expr_gen.proofs.Operations.{operations_play}
use Rattle.expr_gen.proofs.laws.operations_play.Goals as goal

pub returns : goal.returns
returns c = operations_play
