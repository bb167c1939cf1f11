-- The low bits of `^` are those of the operands.
use Rattle.std.proofs.Common.{ℕ, Ok, ap, ◌∙◌}
use Rattle.thread_steps.proofs.LowBits.{xor_is}
use Rattle.thread_steps.proofs.arithmetic.bits_of_one.Goals as goal

pub returns : goal.returns
returns c = ap (λ (n : ℕ). Ok n) c.converted.ensures ∙ xor_is c.args.ty c.requires c.args.a c.args.b
