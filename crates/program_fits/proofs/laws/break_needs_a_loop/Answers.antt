-- The law is the lemma of the same name.
use Rattle.program_fits.proofs.Kept.{break_needs_a_loop}
use Rattle.program_fits.proofs.laws.break_needs_a_loop.Goals as goal

pub returns : goal.returns
returns c = break_needs_a_loop
