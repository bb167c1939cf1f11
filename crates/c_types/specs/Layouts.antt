-- Where the members of a structure or a union lie (C11 6.7.2.1).
--
-- The members of a structure lie in order, each at the next multiple of its alignment; those of a union
-- all at 0. The size is rounded up to the greatest alignment, so that in an array each element is
-- aligned. The first member decides that has no size or with which the bytes pass 131,072.
use Rattle.std.specs.Prelude.{ℕ, ◌+◌, max, nat_lt, if◌then◌else◌, List, [], ◌∷◌, ◌++◌, Result, Ok, Err}
use Rattle.std.specs.Int.{next_multiple_of}
use Rattle.c_types.specs.declared.ctype.CType.{CType}
use Rattle.c_types.specs.declared.ctype.TypeFault.{TypeFault}
use Rattle.c_types.specs.declared.ctype.TypeFault.TheVariants.{TooLarge}
use Rattle.c_types.specs.declared.layouts.Form.{Form}
use Rattle.c_types.specs.declared.layouts.Form.TheVariants.{Structure, Union}
use Rattle.c_types.specs.Sizes.{Room, room_of}

-- where one member lies, the byte after all members so far, and their greatest alignment
pub record PlainPlacement : Type 0 where
  pub offset : ℕ
  pub end : ℕ
  pub align : ℕ

-- where a member lies, after those before it or beside them
abbrev pub offset_of : Form → ℕ → ℕ → ℕ
offset_of Structure end align = next_multiple_of end align
offset_of Union end align = 0

-- a member is laid from the byte `end` on, where those before it have the alignment `align`
abbrev pub placement_at : ℕ → ℕ → ℕ → Room → Result PlainPlacement TypeFault
placement_at offset end align room =
    if nat_lt 131072 (offset + room.size) then Err TooLarge else Ok (record { offset = offset; end = max end (offset + room.size); align = max align room.align })

abbrev pub placement_of : Form → ℕ → ℕ → Result Room TypeFault → Result PlainPlacement TypeFault
placement_of form end align (Err fault) = Err fault
placement_of form end align (Ok room) = placement_at (offset_of form end room.align) end align room

-- where several members lie, the byte after all of them, and their greatest alignment
pub record Placements : Type 0 where
  pub offsets : List ℕ
  pub end : ℕ
  pub align : ℕ

-- after a step, the members that are left are laid
abbrev pub go_on : Placements → Result PlainPlacement TypeFault → (Placements → Result Placements TypeFault) → Result Placements TypeFault
go_on so_far (Ok step) rest = rest (record { offsets = so_far.offsets ++ step.offset ∷ []; end = step.end; align = step.align })
go_on so_far (Err fault) rest = Err fault

-- the members after those that are laid so far
unfoldable pub placements_of : Form → Placements → List CType → Result Placements TypeFault
placements_of form so_far [] = Ok so_far
placements_of form so_far (m ∷ ms) = go_on so_far (placement_of form so_far.end so_far.align (room_of m)) (λ next. placements_of form next ms)

-- before the first member
abbrev pub no_placements : Placements
no_placements = record { offsets = []; end = 0; align = 1 }

-- the layout of all members: their places, with the size rounded up at the end
pub record Layout : Type 0 where
  pub offsets : List ℕ
  pub size : ℕ
  pub align : ℕ

abbrev pub layout_in : Result Placements TypeFault → Result Layout TypeFault
layout_in (Ok p) = Ok (record { offsets = p.offsets; size = next_multiple_of p.end p.align; align = p.align })
layout_in (Err fault) = Err fault

unfoldable pub layout_of : Form → List CType → Result Layout TypeFault
layout_of form members = layout_in (placements_of form no_placements members)
