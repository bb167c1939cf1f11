use Rattle.single_thread.proofs.More.{runs_end}
use Rattle.single_thread.proofs.laws.runs_end.Goals as goal

pub returns : goal.returns
returns c = runs_end
