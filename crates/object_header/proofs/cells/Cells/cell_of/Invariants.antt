-- The cells of the classes so far lie before the place that is looked for.
use Rattle.std.proofs.Common.{◌≡◌, ◌≤◌, take}
use Rattle.object_header.specs.WordMap.{words_together}
use Rattle.object_header.specs.HeapCells.{classes_in}
use Rattle.object_header.proofs.cells.Cells.cell_of.Given as goal

abbrev pub invariant-loop-class : goal.invariant-loop-class
invariant-loop-class l = record {
  start : l.start ≡ words_together (take l.class (classes_in l.self));
  before : l.start ≤ l.at;
}
