use Rattle.std.proofs.Common.{refl}
use Rattle.c_specifiers.specs.Specifiers.{same_words}
use Rattle.c_specifiers.proofs.laws.rows_have_different_words.Goals as goal

pub returns : goal.returns
unfolding same_words
returns c = refl
