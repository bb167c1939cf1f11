-- The bits of a difference are those of the difference of the integers.
use Rattle.std.proofs.Common.{sym, ap, ◌∙◌, ℕ, arith}
use Rattle.filc_num.specs.Integers.{convert_of}
use Rattle.filc_num.proofs.Residues.{difference_of_values}
use Rattle.filc_num.proofs.operation.difference.Goals as goal

pub returns-clause-exact : goal.returns-clause-exact
returns-clause-exact c =
    c.convert.ensures.exact ∙ ap (λ (n : ℕ). convert_of n c.args.ty) (sym (difference_of_values c.args.ty c.args.a c.args.b (omega arith) (omega arith)))
