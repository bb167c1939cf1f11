-- The newest of a number is where it was put last.
use Rattle.std.proofs.Common.{arith}
use Rattle.std.specs.BTreeMap.{get}
use Rattle.std.specs.Ordering.{nat_cmp}
use Rattle.c_objects.specs.Contents.{number_placed}
use Rattle.c_objects.proofs.Newest.{newest_more}
use Rattle.c_objects.proofs.statics.places_of_objects.Goals as goal

pub objects-preserved : goal.objects-preserved
objects-preserved c =
    newest_more number_placed c.args.placed.now c.objects.index _ (get nat_cmp c.objects.places)
    (get nat_cmp c.insert.new.self) (omega arith) c.in_ok-insert.ensures.updates.0 c.objects.invariant
