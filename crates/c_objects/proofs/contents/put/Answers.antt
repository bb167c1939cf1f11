-- A byte more is set, and the value is divided once more.
use Rattle.std.proofs.Common.{◌≡◌, ◌+◌, ◌%◌, ap, rules, arith}
use Rattle.c_objects.proofs.Puts.{no_byte, no_half, rest_more, byte_put, half_put, bytes_done, halves_done}
use Rattle.c_objects.proofs.contents.put.Goals as goal

pub bytes-preserved : goal.bytes-preserved
bytes-preserved c =
    let l = c.bytes in
    let f = c.args.fill.now in
    let place : c.in_ok-place.place ≡ f.offset + l.index = search rules in (
      rest_more f.value l.rest l.index l.invariant.0,
      byte_put c.args.bytes.now.items l.bytes.items c.set_byte.new.bytes.items f l.index c.in_ok-place.place (l.rest % 256) l.invariant.1
          (ap (λ r. r % 256) l.invariant.0) place c.set_byte.ensures,
      half_put c.args.halves.now.items l.halves.items c.set_half.new.halves.items f l.index c.in_ok-place.place l.invariant.2
          place c.set_half.ensures,
    )

pub returns-clause-bytes : goal.returns-clause-bytes
returns-clause-bytes c =
    bytes_done c.args.bytes.now.items c.bytes.bytes.items c.args.fill.now c.bytes.index (omega arith) c.bytes.invariant.1

pub returns-clause-halves : goal.returns-clause-halves
returns-clause-halves c =
    halves_done c.args.halves.now.items c.bytes.halves.items c.args.fill.now c.bytes.index (omega arith) c.bytes.invariant.2
