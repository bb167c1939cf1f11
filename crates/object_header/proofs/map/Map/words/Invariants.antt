-- The words up to the classes so far.
use Rattle.std.proofs.Common.{◌≡◌, ◌+◌, take}
use Rattle.object_header.specs.WordMap.{words_together}
use Rattle.object_header.specs.HeapCells.{classes_in}
use Rattle.object_header.proofs.map.Map.words.Given as goal

abbrev pub invariant-loop-class : goal.invariant-loop-class
invariant-loop-class l = l.words ≡ l.self-inside.cells.start + words_together (take l.class (classes_in l.self-inside.cells))
