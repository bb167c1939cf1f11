-- How a map is kept: beside what it is made of, the places of the statics and the start of the
-- cells.
use Rattle.std.specs.Prelude.{◌≡◌, ℕ, ◌<◌, vec_len, slice_index}
use Rattle.object_header.specs.WordMap.{Layout, Static, IsWellFormed, layout_of, cells_start, place_of_site}
use Rattle.object_header.specs.HeapCells.{classes_in}
use Rattle.object_header.specs.declared.map.Map.TheInside.{Inside}

-- what the map is made of
abbrev pub layout_in : Inside → Layout
layout_in m = layout_of m.slots m.out_words m.statics.items (classes_in m.cells)

-- the map is well formed, and what is kept beside it is as the map says
pub record IsKept (m : Inside) : Type 0 where
  pub well_formed : IsWellFormed (layout_in m)
  pub start : m.cells.start ≡ cells_start (layout_in m)
  pub as_many : vec_len m.places ≡ vec_len m.statics
  pub places : (index : ℕ) → index < vec_len m.statics → slice_index m.places.items index ≡ place_of_site (layout_in m) (Static index)
