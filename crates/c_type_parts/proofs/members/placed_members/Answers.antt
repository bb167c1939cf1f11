-- Behind the shorter of the lists nothing is placed.
use Rattle.std.proofs.Common.{◌≡◌, ◌≤◌, length, arith, rules}
use Rattle.std.specs.Prelude.{min}
use Rattle.c_type_parts.proofs.Placing.{all_placed}
use Rattle.c_type_parts.proofs.members.placed_members.Goals as goal

pub returns : goal.returns
returns c =
    let ms = c.args.members.now in
    let os = c.args.offsets.now in
    let count : c.min-count.result ≡ min (length ms) (length os) = search rules in
    let past : min (length ms) (length os) ≤ c.loop-index.index = omega arith in
    all_placed c.loop-index.placed ms os c.loop-index.index past c.loop-index.invariant
