-- The bytes of the fill so far are set, and the rest of its value is left.
use Rattle.std.proofs.Common.{◌≡◌, ◌/◌, ◌^◌}
use Rattle.c_objects.specs.Contents.{up_to, BytesPut, HalvesPut}
use Rattle.c_objects.proofs.contents.put.Given as goal

abbrev pub invariant-bytes : goal.invariant-bytes
invariant-bytes l =
    (l.rest ≡ l.fill.value / 256 ^ l.index)
    × BytesPut l.fn.bytes.items l.bytes.items (up_to l.fill l.index)
    × HalvesPut l.fn.halves.items l.halves.items (up_to l.fill l.index)
