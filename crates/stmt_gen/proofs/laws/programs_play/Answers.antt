-- The law is proved in `Programs.antt`.
use Rattle.stmt_gen.proofs.Programs.{programs_play}
use Rattle.stmt_gen.proofs.laws.programs_play.Goals as goal

pub returns : goal.returns
returns c = programs_play
