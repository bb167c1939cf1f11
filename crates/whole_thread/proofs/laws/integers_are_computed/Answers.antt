-- Each is found by computing.
use Rattle.std.proofs.Common.{refl}
use Rattle.filc_num.specs.Integers.{convert_of, binary_of}
use Rattle.whole_thread.proofs.laws.integers_are_computed.Goals as goal

pub returns-clause-values : goal.returns-clause-values
unfolding convert_of binary_of
returns-clause-values c = (λ next. refl, λ next. refl, λ next. refl)

pub returns-clause-traps : goal.returns-clause-traps
unfolding convert_of binary_of
returns-clause-traps c = (λ next. refl, λ next. refl)
