-- Each is found by computing.
use Rattle.std.proofs.Common.{refl}
use Rattle.filc_num.specs.Integers.{convert_of, binary_of}
use Rattle.whole_thread.proofs.laws.integers_are_checked_and_then_accessed.Goals as goal

pub returns-clause-load : goal.returns-clause-load
unfolding convert_of binary_of
returns-clause-load c = (λ next. refl, λ next. refl)

pub returns-clause-update : goal.returns-clause-update
unfolding convert_of binary_of
returns-clause-update c = (λ next. refl, λ next. refl)
