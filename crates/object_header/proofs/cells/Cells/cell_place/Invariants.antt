-- The cells of the classes so far lie before the place.
use Rattle.std.proofs.Common.{◌≡◌, ◌+◌, take}
use Rattle.object_header.specs.WordMap.{words_together}
use Rattle.object_header.specs.HeapCells.{classes_in}
use Rattle.object_header.proofs.cells.Cells.cell_place.Given as goal

abbrev pub invariant-loop-before : goal.invariant-loop-before
invariant-loop-before l = l.start ≡ l.self.start + words_together (take l.before (classes_in l.self))
