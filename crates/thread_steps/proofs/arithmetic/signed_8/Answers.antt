-- The sign fills the bits above the low ones.
use Rattle.std.proofs.Common.{arith}
use Rattle.std.proofs.lemmas.Bool.Decides.{nat_tests}
use Rattle.std.proofs.lemmas.Int.{ints}
use Rattle.filc_num.specs.Integers.{convert_of}
use Rattle.thread_steps.proofs.arithmetic.signed_8.Goals as goal

pub returns : goal.returns
unfolding convert_of
returns c = grind (arith, ints, nat_tests)
