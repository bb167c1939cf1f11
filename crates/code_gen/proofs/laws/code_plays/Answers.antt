use Rattle.code_gen.proofs.Program.{code_plays}
use Rattle.code_gen.proofs.laws.code_plays.Goals as goal

pub returns : goal.returns
returns c = code_plays
