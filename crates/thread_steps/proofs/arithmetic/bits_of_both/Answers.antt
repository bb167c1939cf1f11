-- The low bits of `&` are those of the operands.
use Rattle.std.proofs.Common.{ℕ, Ok, ap, ◌∙◌}
use Rattle.thread_steps.proofs.LowBits.{and_is}
use Rattle.thread_steps.proofs.arithmetic.bits_of_both.Goals as goal

pub returns : goal.returns
returns c = ap (λ (n : ℕ). Ok n) c.converted.ensures ∙ and_is c.args.ty c.requires c.args.a c.args.b
