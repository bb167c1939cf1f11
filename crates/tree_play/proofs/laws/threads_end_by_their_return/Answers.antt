-- Each is found by computing.
use Rattle.std.proofs.Common.{refl}
use Rattle.filc_num.specs.Integers.{convert_of, binary_of}
use Rattle.tree_play.proofs.laws.threads_end_by_their_return.Goals as goal

pub returns-clause-call : goal.returns-clause-call
unfolding convert_of binary_of
returns-clause-call c = (refl, refl)
