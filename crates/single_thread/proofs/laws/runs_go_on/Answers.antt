use Rattle.single_thread.proofs.More.{runs_go_on}
use Rattle.single_thread.proofs.laws.runs_go_on.Goals as goal

pub returns : goal.returns
returns c = runs_go_on
