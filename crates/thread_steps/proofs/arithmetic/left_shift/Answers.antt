-- A count that isn't below the width is refused.
use Rattle.std.proofs.Common.{arith}
use Rattle.thread_steps.proofs.LowBits.{shift_fails}
use Rattle.thread_steps.proofs.arithmetic.left_shift.Goals as goal

pub returns-else-count-from : goal.returns-else-count-from
returns-else-count-from c = shift_fails c.args.ty c.requires.promoted c.args.a c.args.count (omega arith)
