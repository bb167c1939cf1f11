-- Each is found by computing.
use Rattle.std.proofs.Common.{refl}
use Rattle.filc_num.specs.Integers.{convert_of, binary_of}
use Rattle.tree_play.proofs.laws.traps_have_lines.Goals as goal

pub returns-clause-division : goal.returns-clause-division
unfolding convert_of binary_of
returns-clause-division c = refl
