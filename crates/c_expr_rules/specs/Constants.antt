-- What is known of a value before a run: constants (C11 6.6).
--
-- An integer constant in form has no other operands than integer constants. Its value is the one that a run would
-- compute, but that signed arithmetic doesn't wrap: a result that its type doesn't hold is a fault, as are a divisor of zero
-- and a shift out of range (6.6p4). An operand that isn't evaluated is a constant in form, and its fault doesn't count.
use Rattle.std.specs.Prelude.{ℕ, ◌+◌, ◌-◌, ◌*◌, ◌%◌, ◌^◌, Bool, true, false, not, ◌&&◌, ◌==◌, ℤ, ◌+ℤ◌, ◌-ℤ◌, ◌*ℤ◌, int_le, if◌then◌else◌, Option, Some, None, Result, Ok, Err}
use Rattle.filc_num.specs.declared.integer.IntType.{IntType}
use Rattle.filc_num.specs.declared.integer.BinOp.{BinOp}
use Rattle.filc_num.specs.declared.integer.BinOp.TheVariants as b
use Rattle.filc_num.specs.declared.integer.ArithFault.{ArithFault}
use Rattle.filc_num.specs.Integers.{is_signed, value_of, least_of, greatest_of, convert_of, binary_of, truth_of}
use Rattle.filc_num.specs.declared.statics.StaticHalf.TheVariants as half
use Rattle.c_expr_rules.specs.declared.known.Known.{Known}
use Rattle.c_expr_rules.specs.declared.known.Known.TheVariants.{Nothing, Integer, Fault, Address}

-- a value of an integer type after conversion; no pointer becomes an integer before a run
abbrev pub known_as : IntType → Known → Known
known_as ty (Integer v) = Integer (convert_of v ty)
known_as ty Fault = Fault
known_as ty (Address half offset) = Nothing
known_as ty Nothing = Nothing

-- the integer that plain arithmetic gives where a signed type may not hold it
abbrev pub exact_of : BinOp → IntType → ℕ → ℕ → Option ℤ
exact_of b.Add ty x y = Some (value_of ty x +ℤ value_of ty y)
exact_of b.Sub ty x y = Some (value_of ty x -ℤ value_of ty y)
exact_of b.Mul ty x y = Some (value_of ty x *ℤ value_of ty y)
exact_of _ ty x y = None

abbrev pub holds : IntType → ℤ → Bool
holds ty z = int_le (least_of ty) z && int_le z (greatest_of ty)

abbrev pub is_held : IntType → Option ℤ → Bool
is_held ty None = true
is_held ty (Some z) = if is_signed ty then holds ty z else true

abbrev pub known_result : Result ℕ ArithFault → Known
known_result (Ok v) = Integer v
known_result (Err fault) = Fault

abbrev pub computed_value : BinOp → IntType → ℕ → ℕ → Known
computed_value op ty x y = if is_held ty (exact_of op ty x y) then known_result (binary_of op ty x y) else Fault

-- an operator on two values that are of its type already; the count of a shift has a type of its own
abbrev pub known_binary : BinOp → IntType → Known → Known → Known
known_binary op ty (Integer x) (Integer y) = computed_value op ty x y
known_binary op ty (Integer x) Fault = Fault
known_binary op ty Fault (Integer y) = Fault
known_binary op ty Fault Fault = Fault
known_binary op ty _ _ = Nothing

abbrev pub known_truth : Known → Known
known_truth (Integer v) = Integer (truth_of (not (v == 0)))
known_truth Fault = Fault
known_truth _ = Nothing

-- `&&` where all, else `||`: after these operands a further one. It isn't evaluated where those decide
abbrev pub decides : Bool → ℕ → Bool
decides true v = v == 0
decides false v = not (v == 0)

abbrev pub known_logic : Bool → Known → Known → Known
known_logic all (Integer v) (Integer w) = if decides all v then known_truth (Integer v) else known_truth (Integer w)
known_logic all (Integer v) Fault = if decides all v then known_truth (Integer v) else Fault
known_logic all Fault (Integer w) = Fault
known_logic all Fault Fault = Fault
known_logic all _ _ = Nothing

abbrev pub is_known : Known → Bool
is_known Nothing = false
is_known (Integer v) = true
is_known Fault = true
is_known (Address half offset) = true

abbrev pub known_chosen : Known → Known → Known → Known
known_chosen (Integer v) x y = if v == 0 then y else x
known_chosen Fault x y = Fault
known_chosen _ x y = Nothing

-- `?:` is a constant where all three are; only the chosen one is evaluated
abbrev pub known_choice : Known → Known → Known → Known
known_choice test x y = if is_known x && is_known y then known_chosen test x y else Nothing

-- an address that goes forward or back by so many elements, modulo 2 ^ 64. An address constant has no fault either (6.6p4)
abbrev pub known_forward : ℕ → Known → Known → Known
known_forward bytes (Address half offset) (Integer v) = Address half ((offset + v * bytes) % 2 ^ 64)
known_forward bytes (Address half offset) Fault = Fault
known_forward bytes Fault (Integer v) = Fault
known_forward bytes Fault Fault = Fault
known_forward bytes _ _ = Nothing

abbrev pub known_back : ℕ → Known → Known → Known
known_back bytes (Address half offset) (Integer v) = Address half ((offset + (2 ^ 64 - v * bytes % 2 ^ 64)) % 2 ^ 64)
known_back bytes (Address half offset) Fault = Fault
known_back bytes Fault (Integer v) = Fault
known_back bytes Fault Fault = Fault
known_back bytes _ _ = Nothing

-- an integer constant as a pointer
abbrev pub known_pointer : Known → Known
known_pointer (Integer v) = Address half.None v
known_pointer Fault = Fault
known_pointer _ = Nothing

abbrev pub is_zero : Known → Bool
is_zero (Integer v) = v == 0
is_zero _ = false
