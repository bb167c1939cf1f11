-- Each is found by computing.
use Rattle.std.proofs.Common.{refl}
use Rattle.filc_num.specs.Integers.{convert_of, binary_of}
use Rattle.tree_play.proofs.laws.atomic_integers_make_one_event.Goals as goal

pub returns-clause-fetch : goal.returns-clause-fetch
unfolding convert_of binary_of
returns-clause-fetch c = refl

pub returns-clause-combine : goal.returns-clause-combine
unfolding convert_of binary_of
returns-clause-combine c = refl

pub returns-clause-division : goal.returns-clause-division
unfolding convert_of binary_of
returns-clause-division c = refl

pub returns-clause-exchange : goal.returns-clause-exchange
unfolding convert_of binary_of
returns-clause-exchange c = refl

pub returns-clause-fails : goal.returns-clause-fails
unfolding convert_of binary_of
returns-clause-fails c = refl

pub returns-clause-bytes : goal.returns-clause-bytes
unfolding convert_of binary_of
returns-clause-bytes c = refl

pub returns-clause-negative : goal.returns-clause-negative
unfolding convert_of binary_of
returns-clause-negative c = refl

pub returns-clause-negative_found : goal.returns-clause-negative_found
unfolding convert_of binary_of
returns-clause-negative_found c = refl
