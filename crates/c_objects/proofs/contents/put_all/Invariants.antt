-- The fills from this index on are set.
use Rattle.std.proofs.Common.{◌≤◌, length, drop}
use Rattle.c_objects.specs.Contents.{BytesFilled, HalvesFilled}
use Rattle.c_objects.proofs.contents.put_all.Given as goal

abbrev pub invariant-fills : goal.invariant-fills
invariant-fills l =
    (l.index ≤ length l.fills)
    × BytesFilled l.fn.bytes.items l.bytes.items (drop l.index l.fills)
    × HalvesFilled l.fn.halves.items l.halves.items (drop l.index l.fills)

abbrev pub decreases-fills : goal.decreases-fills
decreases-fills l = l.index
