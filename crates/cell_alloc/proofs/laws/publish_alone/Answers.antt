-- All its stores.
use Rattle.cell_alloc.proofs.PublishSteps.{ends}
use Rattle.cell_alloc.proofs.laws.publish_alone.Goals as goal

pub returns : goal.returns
returns c l words site bytes colour kind laid_out is fits few small = ends l words site bytes colour kind laid_out is fits few small
