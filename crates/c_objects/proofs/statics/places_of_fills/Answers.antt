-- The newest of a number is where it was put last.
use Rattle.std.proofs.Common.{arith}
use Rattle.std.specs.BTreeMap.{get}
use Rattle.std.specs.Ordering.{nat_cmp}
use Rattle.c_objects.specs.Contents.{number_filled}
use Rattle.c_objects.proofs.Newest.{newest_more}
use Rattle.c_objects.proofs.statics.places_of_fills.Goals as goal

pub fills-preserved : goal.fills-preserved
fills-preserved c =
    newest_more number_filled c.args.filled.now c.fills.index c.index-filled-index.result (get nat_cmp c.fills.places)
    (get nat_cmp c.insert.new.self) (omega arith) c.in_ok-insert.ensures.updates.0 c.fills.invariant
