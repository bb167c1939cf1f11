-- A load, or the exchange.
use Rattle.cell_alloc.proofs.ClaimSteps.{steps}
use Rattle.cell_alloc.proofs.laws.claim_step.Goals as goal

pub returns-clause-steps : goal.returns-clause-steps
returns-clause-steps c = steps
