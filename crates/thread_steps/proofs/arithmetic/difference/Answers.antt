-- The low bits of a difference are those of the operands' difference.
use Rattle.std.proofs.Common.{ℕ, Ok, ap, ◌∙◌, arith}
use Rattle.thread_steps.proofs.LowBits.{difference_is}
use Rattle.thread_steps.proofs.arithmetic.difference.Goals as goal

pub returns : goal.returns
returns c = ap (λ (n : ℕ). Ok n) c.converted.ensures ∙ difference_is c.args.ty c.requires c.args.a c.args.b (omega arith)
