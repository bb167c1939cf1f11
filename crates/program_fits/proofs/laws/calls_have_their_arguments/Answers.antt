-- The law is the lemma of the same name.
use Rattle.program_fits.proofs.Kept.{calls_have_their_arguments}
use Rattle.program_fits.proofs.laws.calls_have_their_arguments.Goals as goal

pub returns : goal.returns
returns c = calls_have_their_arguments
