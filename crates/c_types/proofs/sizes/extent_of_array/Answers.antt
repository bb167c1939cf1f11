-- An array that is not too large has a size within the limit.
use Rattle.std.proofs.Common.{arith}
use Rattle.c_types.proofs.Multiples.{IsExtent-array}
use Rattle.c_types.proofs.sizes.extent_of_array.Goals as goal

pub invariant_of-result : goal.invariant_of-result
invariant_of-result c =
    let a = c.args.array in
    record { sound = IsExtent-array a.count a.extent.size a.extent.align a.some a.extent.sound (omega arith) }
