-- The newest of a number is where it was put last.
use Rattle.std.proofs.Common.{arith}
use Rattle.std.specs.BTreeMap.{get}
use Rattle.std.specs.Ordering.{nat_cmp}
use Rattle.c_objects.specs.Contents.{number_of_text}
use Rattle.c_objects.proofs.Newest.{newest_more}
use Rattle.c_objects.proofs.statics.places_of_texts.Goals as goal

pub texts-preserved : goal.texts-preserved
texts-preserved c =
    newest_more number_of_text c.args.literals.now c.texts.index c.index-literals-index.result (get nat_cmp c.texts.places)
    (get nat_cmp c.insert.new.self) (omega arith) c.in_ok-insert.ensures.updates.0 c.texts.invariant
