-- Each is found by computing.
use Rattle.std.proofs.Common.{refl}
use Rattle.filc_num.specs.Integers.{convert_of, binary_of}
use Rattle.tree_play.proofs.laws.addresses_move_and_are_looked_at.Goals as goal

pub returns-clause-distances : goal.returns-clause-distances
unfolding convert_of binary_of
returns-clause-distances c = (refl, refl)

pub returns-clause-comparisons : goal.returns-clause-comparisons
unfolding convert_of binary_of
returns-clause-comparisons c = (refl, refl)

pub returns-clause-conversions : goal.returns-clause-conversions
unfolding convert_of binary_of
returns-clause-conversions c = (refl, refl, refl, refl)
