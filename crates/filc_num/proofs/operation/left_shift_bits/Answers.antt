-- A shift to the left is a product with a power of two.
use Rattle.std.proofs.Common.{sym, arith}
use Rattle.filc_num.proofs.Residues.{product_with_power}
use Rattle.filc_num.proofs.operation.left_shift_bits.Goals as goal

pub returns : goal.returns
returns c = sym (product_with_power c.args.ty c.args.a c.args.count (omega arith) (omega arith))
