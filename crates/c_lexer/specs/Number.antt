-- Numbers: the value and the type of an integer constant.
--
-- A number is decimal, or octal after a 0, or hexadecimal after 0x or 0X, and may have a suffix of u,
-- of l or ll, or of both in either order. Its type is the first in its row of the table that holds it.
use Rattle.std.specs.Prelude.{codes, ℕ, ◌+◌, ◌*◌, ◌^◌, Bool, cond, ◌==◌, ◌&&◌, ◌||◌, nat_eq, nat_lt, List, [], ◌∷◌, drop, Option, Some, None}
use Rattle.std.specs.List.{starts_with, take_while, prefix_len, find}
use Rattle.std.specs.Option.{option_map, option_and_then}
use Rattle.std.specs.Char.{digit_value, is_digit}
use Rattle.filc_num.specs.CIntTypes.{int_type_of}
use Rattle.filc_num.specs.Integers.{limit_of}
use Rattle.c_lexer.specs.declared.numbers.Number.{Number}
use Rattle.filc_num.specs.declared.c_int_type.CIntType.{CIntType}
use Rattle.filc_num.specs.declared.c_int_type.CIntType.TheVariants.{Int, UnsignedInt, Long, UnsignedLong, LongLong, UnsignedLongLong}
use Rattle.c_lexer.specs.declared.numbers.Suffix.{Suffix}
use Rattle.c_lexer.specs.declared.numbers.Suffix.TheVariants.{Plain, U, L, Ul, Ll, Ull}

-- the number that the digits write in this base, where `so_far` is what those before them write
abbrev pub value_of : ℕ → ℕ → List ℕ → ℕ
value_of base so_far [] = so_far
value_of base so_far (digit ∷ digits) = value_of base (so_far * base + digit_value digit) digits

-- the value, where 64 bits hold it
abbrev pub fitting : ℕ → Option ℕ
fitting value = cond (nat_lt value (2 ^ 64)) (Some value) None

-- the digits of this base at the front
abbrev pub digits_of : ℕ → List ℕ → List ℕ
digits_of base text = take_while (λ b. is_digit b base) text

abbrev pub is_u : ℕ → Bool
is_u b = b == 117 || b == 85

abbrev pub is_l : ℕ → Bool
is_l b = b == 108 || b == 76

-- two l in one case
abbrev pub is_ll : ℕ → ℕ → Bool
is_ll a b = is_l a && a == b

-- the suffix that the bytes are
abbrev pub suffix_of : List ℕ → Option Suffix
suffix_of [] = Some Plain
suffix_of (a ∷ []) = cond (is_u a) (Some U) (cond (is_l a) (Some L) None)
suffix_of (a ∷ b ∷ []) = cond ((is_u a && is_l b) || (is_l a && is_u b)) (Some Ul) (cond (is_ll a b) (Some Ll) None)
suffix_of (a ∷ b ∷ c ∷ []) = cond ((is_u a && is_ll b c) || (is_ll a b && is_u c)) (Some Ull) None
suffix_of (a ∷ b ∷ c ∷ d ∷ rest) = None

-- the types that a number may have, the first choice first
abbrev pub types_of : Bool → Suffix → List CIntType
types_of decimal Plain = cond decimal (Int ∷ Long ∷ []) (Int ∷ UnsignedInt ∷ Long ∷ UnsignedLong ∷ [])
types_of decimal U = UnsignedInt ∷ UnsignedLong ∷ []
types_of decimal L = cond decimal (Long ∷ []) (Long ∷ UnsignedLong ∷ [])
types_of decimal Ul = UnsignedLong ∷ []
types_of decimal Ll = cond decimal (LongLong ∷ []) (LongLong ∷ UnsignedLongLong ∷ [])
types_of decimal Ull = UnsignedLongLong ∷ []

-- the number with the first of its types that holds it
abbrev pub number_with_type : ℕ → Bool → Suffix → Option Number
number_with_type value decimal suffix =
    option_map (λ c_type. record { value = value; c_type = c_type })
    (find (λ c_type. nat_lt value (limit_of (int_type_of c_type))) (types_of decimal suffix))

-- the bytes are digits of this base, one at least, and a suffix
abbrev pub number_in : ℕ → List ℕ → Option Number
number_in base text =
    let count = prefix_len (λ b. is_digit b base) text in
    cond (count == 0) None
    (option_and_then (λ suffix. number_with_type (value_of base 0 (digits_of base text)) (base == 10) suffix) (suffix_of (drop count text)))

-- the number that the bytes are
unfoldable pub number_of : List ℕ → Option Number
number_of text =
    cond (starts_with nat_eq text (codes "0x") || starts_with nat_eq text (codes "0X")) (number_in 16 (drop 2 text))
    (cond (starts_with nat_eq text (codes "0")) (number_in 8 text) (number_in 10 text))
