-- Each is found by computing.
use Rattle.std.proofs.Common.{refl}
use Rattle.filc_num.specs.Integers.{convert_of, binary_of}
use Rattle.tree_play.proofs.laws.statements_have_flows.Goals as goal

pub returns-clause-step : goal.returns-clause-step
unfolding convert_of binary_of
returns-clause-step c = refl
