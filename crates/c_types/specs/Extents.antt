-- The sizes and alignments that a complete type can have.
use Rattle.std.specs.Prelude.{◌≡◌, ℕ, ◌%◌, ◌≤◌, Bool, ◌||◌, ◌==◌, IsTrue}

-- an alignment is that of a scalar
abbrev pub is_align : ℕ → Bool
is_align a = a == 1 || a == 2 || a == 4 || a == 8

-- a complete type has a byte at least and 131,072 at most, and its size is a multiple of its alignment, so
-- that the elements of an array are aligned
pub record IsExtent (size align : ℕ) : Type 0 where
  pub some : 1 ≤ size
  pub bounded : size ≤ 131072
  pub of_a_scalar : IsTrue (is_align align)
  pub whole : size % align ≡ 0
