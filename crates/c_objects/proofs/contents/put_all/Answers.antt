-- A fill before those that are set.
use Rattle.std.proofs.Common.{◌≡◌, ◌+◌, ◌-◌, ◌<◌, length, arith}
use Rattle.c_objects.proofs.Puts.{bytes_next, halves_next}
use Rattle.c_objects.proofs.contents.put_all.Goals as goal

pub fills-preserved : goal.fills-preserved
fills-preserved c =
    let l = c.fills in
    let fills = c.args.fills.now in
    let less : l.index - 1 < length fills = omega (arith, l.invariant.0) in
    let next : l.index ≡ l.index - 1 + 1 = omega arith in (
      omega (arith, l.invariant.0),
      bytes_next _ _ _ fills (l.index - 1) l.index _ less next l.invariant.1 c.in_ok-put.ensures.bytes,
      halves_next _ _ _ fills (l.index - 1) l.index _ less next l.invariant.2 c.in_ok-put.ensures.halves,
    )
