-- The law is the lemma of the same name.
use Rattle.code_fits.proofs.Expressions.{expressions_have_their_size}
use Rattle.code_fits.proofs.laws.expressions_have_their_size.Goals as goal

pub returns : goal.returns
returns c = expressions_have_their_size
