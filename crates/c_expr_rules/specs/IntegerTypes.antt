-- Integer types in operations (C11 6.3.1.1, 6.3.1.8): ranks, promotion, and the type of two operands.
use Rattle.std.specs.Prelude.{ℕ, Bool, nat_lt, nat_le, if◌then◌else◌, Option, Some, None}
use Rattle.filc_num.specs.declared.c_int_type.CIntType.{CIntType}
use Rattle.filc_num.specs.declared.c_int_type.CIntType.TheVariants.{Bool as BoolType, Char, SignedChar, UnsignedChar, Short, UnsignedShort, Int, UnsignedInt, Long, UnsignedLong, LongLong, UnsignedLongLong}
use Rattle.filc_num.specs.CIntTypes.{int_type_of}
use Rattle.filc_num.specs.Integers.{is_signed, width_of}
use Rattle.c_types.specs.declared.ctype.CType.{CType}
use Rattle.c_types.specs.declared.ctype.CType.TheVariants.{Void, Integer, Enumeration, Pointer, ArrayOf, Function, Structure, Union}

-- an enumeration has the size, sign and rank of an int
abbrev pub integer_kind : CType → Option CIntType
integer_kind (Integer kind) = Some kind
integer_kind (Enumeration tag) = Some Int
integer_kind Void = None
integer_kind (Pointer to) = None
integer_kind (ArrayOf a) = None
integer_kind (Function signature) = None
integer_kind (Structure tag contents) = None
integer_kind (Union tag contents) = None

-- 6.3.1.1p1
abbrev pub rank_of : CIntType → ℕ
rank_of BoolType = 0
rank_of Char = 1
rank_of SignedChar = 1
rank_of UnsignedChar = 1
rank_of Short = 2
rank_of UnsignedShort = 2
rank_of Int = 3
rank_of UnsignedInt = 3
rank_of Long = 4
rank_of UnsignedLong = 4
rank_of LongLong = 5
rank_of UnsignedLongLong = 5

abbrev pub is_signed_kind : CIntType → Bool
is_signed_kind kind = is_signed (int_type_of kind)

-- promotion (6.3.1.1p2): an int holds all values of each type of lower rank
abbrev pub promotion : CIntType → CIntType
promotion kind = if nat_lt (rank_of kind) 3 then Int else kind

-- the unsigned type that corresponds to a signed one (6.2.5p6)
abbrev pub unsigned_of : CIntType → CIntType
unsigned_of Int = UnsignedInt
unsigned_of Long = UnsignedLong
unsigned_of LongLong = UnsignedLongLong
unsigned_of kind = kind

abbrev pub greater_rank : CIntType → CIntType → CIntType
greater_rank a b = if nat_lt (rank_of a) (rank_of b) then b else a

-- of a signed and an unsigned type: the unsigned one where its rank is as great, else the signed one where it holds
-- all values of the other, else the unsigned one that corresponds to it
abbrev pub of_both_signs : CIntType → CIntType → CIntType
of_both_signs s u =
    if nat_le (rank_of s) (rank_of u) then u else (if nat_lt (width_of (int_type_of u)) (width_of (int_type_of s)) then s else unsigned_of s)

-- the type of two promoted operands (6.3.1.8)
abbrev pub of_promoted : CIntType → CIntType → CIntType
of_promoted a b =
    if is_signed_kind a then (if is_signed_kind b then greater_rank a b else of_both_signs a b) else (if is_signed_kind b then of_both_signs b a else greater_rank a b)

-- the usual arithmetic conversions
abbrev pub common_kind : CIntType → CIntType → CIntType
common_kind a b = of_promoted (promotion a) (promotion b)
