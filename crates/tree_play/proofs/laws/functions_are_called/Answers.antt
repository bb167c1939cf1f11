-- Each is found by computing.
use Rattle.std.proofs.Common.{refl}
use Rattle.filc_num.specs.Integers.{convert_of, binary_of}
use Rattle.tree_play.proofs.laws.functions_are_called.Goals as goal

pub returns-clause-home : goal.returns-clause-home
unfolding convert_of binary_of
returns-clause-home c = refl
