-- The low bits of a sum are those of the operands' sum.
use Rattle.std.proofs.Common.{ℕ, Ok, ap, ◌∙◌}
use Rattle.thread_steps.proofs.LowBits.{sum_is}
use Rattle.thread_steps.proofs.arithmetic.sum.Goals as goal

pub returns : goal.returns
returns c = ap (λ (n : ℕ). Ok n) c.converted.ensures ∙ sum_is c.args.ty c.requires c.args.a c.args.b
