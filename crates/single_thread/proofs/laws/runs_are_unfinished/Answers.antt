use Rattle.single_thread.proofs.Unfinished.{runs_are_unfinished}
use Rattle.single_thread.proofs.laws.runs_are_unfinished.Goals as goal

pub returns : goal.returns
returns c = runs_are_unfinished
