-- Each is found by computing.
use Rattle.std.proofs.Common.{refl}
use Rattle.filc_num.specs.Integers.{convert_of, binary_of}
use Rattle.tree_play.proofs.laws.structures_are_copied.Goals as goal

pub returns-clause-bytes : goal.returns-clause-bytes
unfolding convert_of binary_of
returns-clause-bytes c = refl

pub returns-clause-numbers : goal.returns-clause-numbers
unfolding convert_of binary_of
returns-clause-numbers c = (refl, refl)
