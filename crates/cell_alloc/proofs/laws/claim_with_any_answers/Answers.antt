-- One look at each cell, in order.
use Rattle.std.proofs.Common.{Some, None}
use Rattle.object_header.specs.declared.codings.Collect.TheVariants.{Never}
use Rattle.cell_alloc.proofs.ClaimAnswers.{ends}
use Rattle.cell_alloc.proofs.laws.claim_with_any_answers.Goals as goal

pub returns-clause-none : goal.returns-clause-none
returns-clause-none c l class answers well_formed range told = ends l class Never well_formed answers None (c.claim_step.ensures.starts l class Never well_formed range) told

pub returns-clause-some : goal.returns-clause-some
returns-clause-some c l class place collect answers well_formed range told = ends l class collect well_formed answers (Some place) (c.claim_step.ensures.starts l class collect well_formed range) told
