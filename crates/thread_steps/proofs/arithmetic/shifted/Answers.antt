-- The low bits of a shift to the left are those of the operand.
use Rattle.std.proofs.Common.{ℕ, Ok, ap, ◌∙◌}
use Rattle.thread_steps.proofs.LowBits.{shift_is}
use Rattle.thread_steps.proofs.arithmetic.shifted.Goals as goal

pub returns : goal.returns
returns c = ap (λ (n : ℕ). Ok n) c.converted.ensures ∙ shift_is c.args.ty c.requires.promoted c.args.a c.args.count c.requires.count
