-- C's integer types by their names: how each is kept.
use Rattle.filc_num.specs.declared.integer.IntType.{IntType}
use Rattle.filc_num.specs.declared.integer.IntType.TheVariants.{Bool as BoolType, I8, U8, I16, U16, I32, U32, I64, U64}
use Rattle.filc_num.specs.declared.c_int_type.CIntType.{CIntType}
use Rattle.filc_num.specs.declared.c_int_type.CIntType.TheVariants.{Bool, Char, SignedChar, UnsignedChar, Short, UnsignedShort, Int, UnsignedInt, Long, UnsignedLong, LongLong, UnsignedLongLong}

-- `char` is signed, and `long` and `long long` have 64 bits
abbrev pub int_type_of : CIntType → IntType
int_type_of Bool = BoolType
int_type_of Char = I8
int_type_of SignedChar = I8
int_type_of UnsignedChar = U8
int_type_of Short = I16
int_type_of UnsignedShort = U16
int_type_of Int = I32
int_type_of UnsignedInt = U32
int_type_of Long = I64
int_type_of UnsignedLong = U64
int_type_of LongLong = I64
int_type_of UnsignedLongLong = U64
