-- Each is found by computing.
use Rattle.std.proofs.Common.{refl}
use Rattle.filc_num.specs.Integers.{convert_of, binary_of}
use Rattle.whole_thread.proofs.laws.pointers_move_and_are_looked_at.Goals as goal

pub returns-clause-looks : goal.returns-clause-looks
unfolding convert_of binary_of
returns-clause-looks c = (λ next. refl, λ next. refl, λ next. refl, λ next. refl)
