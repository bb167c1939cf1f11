-- Each is found by computing.
use Rattle.std.proofs.Common.{refl}
use Rattle.filc_num.specs.Integers.{convert_of, binary_of}
use Rattle.tree_play.proofs.laws.assignments_change_what_is_there.Goals as goal

pub returns-clause-convert : goal.returns-clause-convert
unfolding convert_of binary_of
returns-clause-convert c = (refl, refl)

pub returns-clause-operator : goal.returns-clause-operator
unfolding convert_of binary_of
returns-clause-operator c = refl

pub returns-clause-atomic : goal.returns-clause-atomic
unfolding convert_of binary_of
returns-clause-atomic c = (refl, refl)

pub returns-clause-trap : goal.returns-clause-trap
unfolding convert_of binary_of
returns-clause-trap c = refl
