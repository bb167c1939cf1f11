-- The size classes of the two heaps: pairs of the payload words of a cell and a number of cells.
--
-- What the least class is that holds n words, and where a cell lies, is said where the map of words
-- is: by `IsLeastClass`, `IsCell` and `cell_offset` of object_header.
use Rattle.std.specs.Prelude.{ℕ, List, [], ◌∷◌}

-- the normal heap's classes
abbrev pub normal_classes : List (ℕ × ℕ)
normal_classes =
    (2, 8192) ∷ (4, 8192) ∷ (8, 4096) ∷ (16, 4096) ∷ (32, 2048) ∷ (64, 1024) ∷ (128, 512) ∷ (256, 256) ∷ (512, 128) ∷ (1024, 64) ∷ (4096, 16) ∷ (16384, 4) ∷ []

-- a small heap's classes
abbrev pub small_classes : List (ℕ × ℕ)
small_classes = (2, 8) ∷ (4, 8) ∷ (8, 8) ∷ (16, 8) ∷ (32, 8) ∷ (64, 8) ∷ []
