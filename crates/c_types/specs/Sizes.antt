-- The size and the alignment of a type (C11 6.5.3.4).
--
-- Void, functions, and structures and unions without contents have none. An array's size is that of its
-- elements together. A size of over 131,072 bytes is refused.
use Rattle.std.specs.Prelude.{ℕ, ◌*◌, nat_lt, if◌then◌else◌, Option, Some, None, Result, Ok, Err}
use Rattle.filc_num.specs.Integers.{bytes_of}
use Rattle.c_types.specs.declared.ctype.CType.{CType}
use Rattle.c_types.specs.declared.ctype.CType.TheVariants.{Void, Integer, Enumeration, Pointer, ArrayOf, Function, Structure, Union}
use Rattle.c_types.specs.declared.ctype.Extent.{Extent}
use Rattle.c_types.specs.declared.ctype.Array.{Array}
use Rattle.c_types.specs.declared.ctype.TypeFault.{TypeFault}
use Rattle.c_types.specs.declared.ctype.TypeFault.TheVariants.{Incomplete, TooLarge}
use Rattle.filc_num.specs.CIntTypes.{int_type_of}

-- size and alignment of a complete type
pub record Room : Type 0 where
  pub size : ℕ
  pub align : ℕ

-- a scalar is aligned to its size
abbrev pub scalar_room : ℕ → Room
scalar_room bytes = record { size = bytes; align = bytes }

abbrev pub room_of_contents : Option Extent → Result Room TypeFault
room_of_contents None = Err Incomplete
room_of_contents (Some e) = Ok (record { size = e.size; align = e.align })

-- the elements together, as many as the limit allows
abbrev pub room_of_array : Array → Result Room TypeFault
room_of_array a = if nat_lt 131072 (a.count * a.extent.size) then Err TooLarge else Ok (record { size = a.count * a.extent.size; align = a.extent.align })

abbrev pub room_of : CType → Result Room TypeFault
room_of Void = Err Incomplete
room_of (Integer named) = Ok (scalar_room (bytes_of (int_type_of named)))
room_of (Enumeration tag) = Ok (scalar_room 4)
room_of (Pointer to) = Ok (scalar_room 8)
room_of (ArrayOf a) = room_of_array a
room_of (Function signature) = Err Incomplete
room_of (Structure tag contents) = room_of_contents contents
room_of (Union tag contents) = room_of_contents contents

-- the room that an extent tells
abbrev pub room_in : Result Extent TypeFault → Result Room TypeFault
room_in (Ok e) = Ok (record { size = e.size; align = e.align })
room_in (Err f) = Err f

abbrev pub size_in : Result Room TypeFault → Result ℕ TypeFault
size_in (Ok r) = Ok r.size
size_in (Err f) = Err f

abbrev pub align_in : Result Room TypeFault → Result ℕ TypeFault
align_in (Ok r) = Ok r.align
align_in (Err f) = Err f

abbrev pub size_of_type : CType → Result ℕ TypeFault
size_of_type ty = size_in (room_of ty)

abbrev pub align_of_type : CType → Result ℕ TypeFault
align_of_type ty = align_in (room_of ty)
