-- The loads of the cells that aren't free, and then the exchange.
use Rattle.object_header.specs.declared.codings.Collect.TheVariants.{Never}
use Rattle.cell_alloc.proofs.ClaimAlone.{ends, ends_taken}
use Rattle.cell_alloc.proofs.laws.claim_alone.Goals as goal

pub returns-clause-taken : goal.returns-clause-taken
returns-clause-taken c l words class cell collect laid_out is = ends_taken l words class cell is collect laid_out (c.claim_step.ensures.starts l class collect laid_out.well_formed is.in_class.class_in_range)

pub returns-clause-never : goal.returns-clause-never
returns-clause-never c l words class laid_out range = ends l words class Never laid_out (c.claim_step.ensures.starts l class Never laid_out.well_formed range)
