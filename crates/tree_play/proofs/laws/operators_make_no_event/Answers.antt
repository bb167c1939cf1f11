-- Each is found by computing.
use Rattle.std.proofs.Common.{refl}
use Rattle.filc_num.specs.Integers.{convert_of, binary_of}
use Rattle.tree_play.proofs.laws.operators_make_no_event.Goals as goal

pub returns-clause-compute : goal.returns-clause-compute
unfolding convert_of binary_of
returns-clause-compute c = (refl, refl, refl, refl, refl)

pub returns-clause-trap : goal.returns-clause-trap
unfolding convert_of binary_of
returns-clause-trap c = (refl, refl, refl, refl)

pub returns-clause-wrap : goal.returns-clause-wrap
unfolding convert_of binary_of
returns-clause-wrap c = (refl, refl, refl, refl, refl)
