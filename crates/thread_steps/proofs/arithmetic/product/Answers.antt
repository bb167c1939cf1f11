-- The low bits of a product are those of the operands' product.
use Rattle.std.proofs.Common.{ℕ, Ok, ap, ◌∙◌}
use Rattle.thread_steps.proofs.LowBits.{product_is}
use Rattle.thread_steps.proofs.arithmetic.product.Goals as goal

pub returns : goal.returns
returns c = ap (λ (n : ℕ). Ok n) c.converted.ensures ∙ product_is c.args.ty c.requires c.args.a c.args.b
