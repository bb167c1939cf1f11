-- Each is found by computing.
use Rattle.std.proofs.Common.{refl}
use Rattle.filc_num.specs.Integers.{convert_of, binary_of}
use Rattle.tree_play.proofs.laws.printf_locks_the_output.Goals as goal

pub returns-clause-locked : goal.returns-clause-locked
unfolding convert_of binary_of
returns-clause-locked c = refl
