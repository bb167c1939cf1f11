use Rattle.single_thread.proofs.Legal.{runs_are_legal, runs_are_legal_by_turns}
use Rattle.single_thread.proofs.laws.runs_are_legal.Goals as goal

pub returns-clause-by_jumps : goal.returns-clause-by_jumps
returns-clause-by_jumps c = runs_are_legal

pub returns-clause-by_turns : goal.returns-clause-by_turns
returns-clause-by_turns c = runs_are_legal_by_turns
