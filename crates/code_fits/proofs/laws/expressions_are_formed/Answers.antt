-- The law is the lemma of the same name.
use Rattle.code_fits.proofs.Expressions.{expressions_are_formed}
use Rattle.code_fits.proofs.laws.expressions_are_formed.Goals as goal

pub returns : goal.returns
returns c = expressions_are_formed
