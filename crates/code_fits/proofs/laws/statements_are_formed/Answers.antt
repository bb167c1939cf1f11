-- The law is the lemma of the same name.
use Rattle.code_fits.proofs.Statements.{statements_are_formed}
use Rattle.code_fits.proofs.laws.statements_are_formed.Goals as goal

pub returns : goal.returns
returns c = statements_are_formed
