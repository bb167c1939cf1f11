-- The law is the lemma of the same name.
use Rattle.program_fits.proofs.Kept.{homes_are_not_set}
use Rattle.program_fits.proofs.laws.homes_are_not_set.Goals as goal

pub returns : goal.returns
returns c = homes_are_not_set
