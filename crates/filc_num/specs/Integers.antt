-- The integers of C, in plain integers: what a type holds, conversion, and each operator.
--
-- A value stands in 64 bits. A value of a signed type is extended by its sign, any other by zeros: so the
-- bits of a kept value do not tell its type. The types I8 to U64 are two's complement, all by one
-- definition over the width. `_Bool` has one bit, and is converted by a rule of its own.
--
--     value_of ty v          the integer that the kept bits v stand for
--     IsValue ty v           v is how a value of ty is kept
--     convert_of v ty        the value of ty that is congruent to v
--     binary_of op ty a b    what an operator gives on two values of ty
use Rattle.std.specs.Prelude.{◌≡◌, ◌⊎◌, ℕ, ◌+◌, ◌-◌, ◌%◌, ◌^◌, ◌<◌, ◌&&◌, ◌||◌, not, nat_lt, nat_le, ◌==◌, Bool, true, false, if◌then◌else◌, ℤ, pos, negsuc, ◌+ℤ◌, ◌-ℤ◌, ◌*ℤ◌, ◌≤ℤ◌, int_lt, int_le, int_div, int_rem, bit_and, bit_or, bit_xor, Result, Ok, Err}
use Rattle.std.specs.Int.{cast_signed, w64, int_shr, div_ceil}
use Rattle.filc_num.specs.declared.integer.IntType.{IntType}
use Rattle.filc_num.specs.declared.integer.IntType.TheVariants.{Bool as BoolType, I8, U8, I16, U16, I32, U32, I64, U64}
use Rattle.filc_num.specs.declared.integer.BinOp.{BinOp}
use Rattle.filc_num.specs.declared.integer.BinOp.TheVariants.{Add, Sub, Mul, Div, Rem, And, Or, Xor, Shl, Shr, Lt, Le, Gt, Ge, Eq, Ne}
use Rattle.filc_num.specs.declared.integer.ArithFault.{ArithFault}
use Rattle.filc_num.specs.declared.integer.ArithFault.TheVariants.{Divide, Shift}

-- ---- types

-- how many bits a value of the type has, the sign among them
abbrev pub width_of : IntType → ℕ
width_of BoolType = 1
width_of I8 = 8
width_of U8 = 8
width_of I16 = 16
width_of U16 = 16
width_of I32 = 32
width_of U32 = 32
width_of I64 = 64
width_of U64 = 64

-- how many bytes an object of the type takes
abbrev pub bytes_of : IntType → ℕ
bytes_of ty = div_ceil (width_of ty) 8

-- the type has negative values
abbrev pub is_signed : IntType → Bool
is_signed I8 = true
is_signed I16 = true
is_signed I32 = true
is_signed I64 = true
is_signed _ = false

-- the types of operands after promotion: only in these is an operation computed
abbrev pub is_promoted : IntType → Bool
is_promoted ty = nat_le 32 (width_of ty)

-- how many values a type of this width has, and how many of them are not negative where it is signed
abbrev pub count_of : IntType → ℕ
count_of ty = 2 ^ width_of ty

abbrev pub half_of : IntType → ℕ
half_of ty = 2 ^ (width_of ty - 1)

-- ---- values

-- the integer that the kept bits stand for
abbrev pub value_of : IntType → ℕ → ℤ
value_of ty v = if is_signed ty then cast_signed w64 v else pos v

-- the least and the greatest integer of the type
abbrev pub least_of : IntType → ℤ
least_of ty = if is_signed ty then negsuc (half_of ty - 1) else pos 0

abbrev pub greatest_of : IntType → ℤ
greatest_of ty = if is_signed ty then pos (half_of ty - 1) else pos (count_of ty - 1)

-- the first natural number that is no integer of the type
abbrev pub limit_of : IntType → ℕ
limit_of ty = if is_signed ty then half_of ty else count_of ty

-- v is how a value of the type is kept
pub record IsValue (ty : IntType) (v : ℕ) : Type 0 where
  pub fits : v < 2 ^ 64
  pub from_least : least_of ty ≤ℤ value_of ty v
  pub to_greatest : value_of ty v ≤ℤ greatest_of ty

-- ---- conversion

-- the low bits of a value of the type as they are kept: the bits above are its sign where the type is
-- signed, else zeros
abbrev pub extend : IntType → ℕ → ℕ
extend ty low = if is_signed ty && nat_le (half_of ty) low then low + (2 ^ 64 - count_of ty) else low

-- conversion (C11 6.3.1.2 and 6.3.1.3): to `_Bool` 0 stays and all else is 1; to any other type, the value
-- congruent to v modulo the number of the type's values
unfoldable pub convert_of : ℕ → IntType → ℕ
convert_of v BoolType = if v == 0 then 0 else 1
convert_of v ty = extend ty (v % count_of ty)

-- the 64 bits of an integer, modulo 2 ^ 64
abbrev pub bits_of : ℤ → ℕ
bits_of (pos n) = n % 2 ^ 64
bits_of (negsuc n) = 2 ^ 64 - 1 - n % 2 ^ 64

-- an integer wrapped to the type
abbrev pub wrap : IntType → ℤ → ℕ
wrap ty z = convert_of (bits_of z) ty

-- ---- operators

-- the operators that compare, and the type of an operator's result: a comparison gives an int
abbrev pub is_comparison : BinOp → Bool
is_comparison Lt = true
is_comparison Le = true
is_comparison Gt = true
is_comparison Ge = true
is_comparison Eq = true
is_comparison Ne = true
is_comparison _ = false

abbrev pub result_type_of : BinOp → IntType → IntType
result_type_of op ty = if is_comparison op then I32 else ty

-- division has a result: the divisor is not 0, and it is not the least value by -1
abbrev pub can_divide : IntType → ℕ → ℕ → Bool
can_divide ty a b = not (b == 0 || (is_signed ty && (a == 2 ^ 64 - half_of ty && b == 2 ^ 64 - 1)))

-- the same of the integers: there is no quotient by 0, nor one that passes the greatest value
abbrev pub HasNoQuotient : IntType → ℤ → ℤ → Type 0
HasNoQuotient ty x y = (y ≡ pos 0) ⊎ ((x ≡ least_of ty) × (y ≡ negsuc 0))

-- a comparison as an int
abbrev pub truth_of : Bool → ℕ
truth_of holds = if holds then 1 else 0

-- What an operator gives on the values a and b of a type, as kept bits. Each result is the integer that
-- the plain operation gives, wrapped to the type. `/` rounds toward zero and `%` has the sign of a. The
-- operators on bits work on the kept ones. The count of a shift is b itself, whatever type it has: a
-- negative count is a great number, and is refused like any other that is not below the width. `>>` rounds
-- down, so it copies the sign.
unfoldable pub binary_of : BinOp → IntType → ℕ → ℕ → Result ℕ ArithFault
binary_of Add ty a b = Ok (wrap ty (value_of ty a +ℤ value_of ty b))
binary_of Sub ty a b = Ok (wrap ty (value_of ty a -ℤ value_of ty b))
binary_of Mul ty a b = Ok (wrap ty (value_of ty a *ℤ value_of ty b))
binary_of Div ty a b = if can_divide ty a b then Ok (wrap ty (int_div (value_of ty a) (value_of ty b))) else Err Divide
binary_of Rem ty a b = if can_divide ty a b then Ok (wrap ty (int_rem (value_of ty a) (value_of ty b))) else Err Divide
binary_of And ty a b = Ok (convert_of (bit_and a b) ty)
binary_of Or ty a b = Ok (convert_of (bit_or a b) ty)
binary_of Xor ty a b = Ok (convert_of (bit_xor a b) ty)
binary_of Shl ty a b = if nat_lt b (width_of ty) then Ok (wrap ty (value_of ty a *ℤ pos (2 ^ b))) else Err Shift
binary_of Shr ty a b = if nat_lt b (width_of ty) then Ok (wrap ty (int_shr (value_of ty a) b)) else Err Shift
binary_of Lt ty a b = Ok (truth_of (int_lt (value_of ty a) (value_of ty b)))
binary_of Le ty a b = Ok (truth_of (int_le (value_of ty a) (value_of ty b)))
binary_of Gt ty a b = Ok (truth_of (int_lt (value_of ty b) (value_of ty a)))
binary_of Ge ty a b = Ok (truth_of (int_le (value_of ty b) (value_of ty a)))
binary_of Eq ty a b = Ok (truth_of (a == b))
binary_of Ne ty a b = Ok (truth_of (not (a == b)))

-- what the right operand of an operator is to be: a value of the type, except for the count of a shift
abbrev pub IsRightOperand : BinOp → IntType → ℕ → Type 0
IsRightOperand Shl ty b = Unit {0}
IsRightOperand Shr ty b = Unit {0}
IsRightOperand _ ty b = IsValue ty b
