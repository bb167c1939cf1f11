-- What a layout is, in words: members in order without overlap, and the least size that holds them.
use Rattle.std.specs.Prelude.{◌≡◌, ℕ, ◌+◌, ◌%◌, ◌<◌, ◌≤◌, max, fold, map, replicate, List, [], ◌∷◌, length, slice_index, Result, Ok, Err}
use Rattle.c_types.specs.declared.ctype.CType.{CType}
use Rattle.c_types.specs.declared.ctype.TypeFault.{TypeFault}
use Rattle.c_types.specs.Sizes.{Room, room_of}
use Rattle.c_types.specs.Layouts.{Layout}

-- a complete type's size and alignment
abbrev pub room_size : Result Room TypeFault → ℕ
room_size (Ok room) = room.size
room_size (Err fault) = 0

abbrev pub room_align : Result Room TypeFault → ℕ
room_align (Ok room) = room.align
room_align (Err fault) = 1

abbrev pub bytes_of_type : CType → ℕ
bytes_of_type ty = room_size (room_of ty)

abbrev pub alignment_of_type : CType → ℕ
alignment_of_type ty = room_align (room_of ty)

-- the sizes and the alignments of members
abbrev pub sizes_of : List CType → List ℕ
sizes_of members = map bytes_of_type members

abbrev pub alignments_of : List CType → List ℕ
alignments_of members = map alignment_of_type members

-- n is the least multiple of a that is x or more
pub record IsLeastMultiple (n a x : ℕ) : Type 0 where
  pub multiple : n % a ≡ 0
  pub reaches : x ≤ n
  pub least : (k : ℕ) → k % a ≡ 0 → x ≤ k → n ≤ k

-- from the byte `from` on, each offset is the next multiple of its member's alignment after the member
-- before it, and `end` is the byte after the last
abbrev pub LieInOrder : ℕ → List CType → List ℕ → ℕ → Type 0
LieInOrder from [] [] end = from ≡ end
LieInOrder from (m ∷ ms) (offset ∷ offsets) end = IsLeastMultiple offset (alignment_of_type m) from × LieInOrder (offset + bytes_of_type m) ms offsets end
LieInOrder from _ _ end = ⊥

-- no member reaches into a later one
abbrev pub LieApart : List ℕ → List ℕ → Type 0
LieApart sizes offsets = (i j : ℕ) → i < j → j < length sizes → slice_index offsets i + slice_index sizes i ≤ slice_index offsets j

-- the layout of a structure's members
pub record IsStructureLayout (members : List CType) (l : Layout) : Type 0 where
  pub end : ℕ
  pub in_order : LieInOrder 0 members l.offsets end
  pub apart : LieApart (sizes_of members) l.offsets
  pub least_size : IsLeastMultiple l.size l.align end
  pub greatest_align : l.align ≡ fold max 1 (alignments_of members)

-- the layout of a union's members
pub record IsUnionLayout (members : List CType) (l : Layout) : Type 0 where
  pub together : l.offsets ≡ replicate (length members) 0
  pub least_size : IsLeastMultiple l.size l.align (fold max 0 (sizes_of members))
  pub greatest_align : l.align ≡ fold max 1 (alignments_of members)
