-- The exchange.
use Rattle.aux_words.proofs.Installing.{steps}
use Rattle.aux_words.proofs.laws.install_step.Goals as goal

pub returns-clause-steps : goal.returns-clause-steps
returns-clause-steps c = steps
