-- No class so far holds the words.
use Rattle.std.proofs.Common.{ℕ, ◌<◌}
use Rattle.object_header.specs.WordMap.{class_at}
use Rattle.object_header.specs.HeapCells.{classes_in}
use Rattle.object_header.proofs.cells.Cells.class_of.Given as goal

abbrev pub invariant-loop-class : goal.invariant-loop-class
invariant-loop-class l = (k : ℕ) → k < l.class → (class_at (classes_in l.self) k).0 < l.words
