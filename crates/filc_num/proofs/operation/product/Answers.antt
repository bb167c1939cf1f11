-- The bits of a product are those of the product of the integers.
use Rattle.std.proofs.Common.{sym, ap, ◌∙◌, ℕ, arith}
use Rattle.filc_num.specs.Integers.{convert_of}
use Rattle.filc_num.proofs.Residues.{product_of_values}
use Rattle.filc_num.proofs.operation.product.Goals as goal

pub returns-clause-exact : goal.returns-clause-exact
returns-clause-exact c =
    c.convert.ensures.exact ∙ ap (λ (n : ℕ). convert_of n c.args.ty) (sym (product_of_values c.args.ty c.args.a c.args.b (omega arith) (omega arith)))
