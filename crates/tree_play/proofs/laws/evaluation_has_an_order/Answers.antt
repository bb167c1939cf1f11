-- Each is found by computing.
use Rattle.std.proofs.Common.{refl}
use Rattle.filc_num.specs.Integers.{convert_of, binary_of}
use Rattle.tree_play.proofs.laws.evaluation_has_an_order.Goals as goal

pub returns-clause-lvalue : goal.returns-clause-lvalue
unfolding convert_of binary_of
returns-clause-lvalue c = refl

pub returns-clause-old_value : goal.returns-clause-old_value
unfolding convert_of binary_of
returns-clause-old_value c = refl

pub returns-clause-local : goal.returns-clause-local
unfolding convert_of binary_of
returns-clause-local c = refl

pub returns-clause-step : goal.returns-clause-step
unfolding convert_of binary_of
returns-clause-step c = refl

pub returns-clause-left : goal.returns-clause-left
unfolding convert_of binary_of
returns-clause-left c = refl

pub returns-clause-order : goal.returns-clause-order
unfolding convert_of binary_of
returns-clause-order c = (refl, refl)
