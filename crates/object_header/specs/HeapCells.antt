-- The cells of the heap, seen as the list of their classes.
use Rattle.std.specs.Prelude.{ℕ, ◌<◌, ◌≤◌, List, length, take}
use Rattle.object_header.specs.WordMap.{class_at}
use Rattle.object_header.specs.declared.cells.Cells.{Cells}

-- the classes, as pairs of payload words and a number of cells
abbrev pub classes_in : Cells → List (ℕ × ℕ)
classes_in cells = take cells.count cells.classes

-- where the first cell begins, with its header
abbrev pub start_of : Cells → ℕ
start_of cells = cells.start

-- the class holds n words, and no class before it does
pub record IsLeastClass (classes : List (ℕ × ℕ)) (n class : ℕ) : Type 0 where
  pub in_range : class < length classes
  pub holds : n ≤ (class_at classes class).0
  pub least : (k : ℕ) → k < class → (class_at classes k).0 < n
