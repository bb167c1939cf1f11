use Rattle.std.proofs.Common.{arith}
use Rattle.c_types.proofs.Multiples.{IsExtent-array}
use Rattle.c_types.proofs.derivation.extent_of_elements.Goals as goal

pub invariant_of-result : goal.invariant_of-result
invariant_of-result c =
    let e = c.in_ok-size.field-0 in
    record { sound = IsExtent-array c.args.count.value e.size e.align c.args.count.some e.sound (omega arith) }
