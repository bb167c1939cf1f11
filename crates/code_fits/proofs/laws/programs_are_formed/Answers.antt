-- The law is the lemma of the same name.
use Rattle.code_fits.proofs.Programs.{programs_are_formed}
use Rattle.code_fits.proofs.laws.programs_are_formed.Goals as goal

pub returns : goal.returns
returns c = programs_are_formed
