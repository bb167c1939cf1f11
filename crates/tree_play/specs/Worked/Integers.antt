-- Worked plays of integers in memory: a row of the table of events each.
use Rattle.std.specs.Prelude.{ℕ, [], ◌∷◌, true, false}
use Rattle.filc_num.specs.Integers.{bytes_of, convert_of}
use Rattle.filc_num.specs.declared.integer.IntType.{IntType}
use Rattle.filc_num.specs.declared.integer.IntType.TheVariants.{Bool as BoolType, I8, I32, U32}
use Rattle.filc_num.specs.declared.integer.BinOp.TheVariants.{Add, Div, Rem, Shl, Lt}
use Rattle.filc_num.specs.declared.reason.Reason.TheVariants.{NoCapability, NoCell, Divide, Shift}
use Rattle.c_tree.specs.declared.operation.Operation.TheVariants as op
use Rattle.c_tree.specs.declared.operation.Access.TheVariants.{Integer}
use Rattle.ideal_machine.specs.declared.value.Half.TheVariants.{Nothing, Object as ObjectHalf}
use Rattle.ideal_machine.specs.declared.event.Operation.TheVariants.{Set, Compute}
use Rattle.ideal_machine.specs.declared.event.Event.TheVariants.{Check, GetInt, SetInt, RmwInt, CasInt}
use Rattle.ideal_machine.specs.declared.event.Answer.TheVariants.{Granted, Refused, Done, Number}
use Rattle.ideal_machine.specs.Values.{integer}
use Rattle.tree_play.specs.Worked.Setting.{one, two, three, number, static, bytes_at, Yields, Traps, WaitsAt, expr_play}

-- ---- operators: no event

-- `-5`, `~0`, `!0` and a conversion of 300 to int8_t; `-1 < 1u` is 0, since it is computed in unsigned int
abbrev pub OperatorsCompute : Type 0
OperatorsCompute =
    Yields (expr_play (one (op.Negate I32) (number 5)) []) [] [] [] (integer 18446744073709551611)
    × Yields (expr_play (one (op.Complement I32) (number 0)) []) [] [] [] (integer 18446744073709551615)
    × Yields (expr_play (one (op.Not I32) (number 0)) []) [] [] [] (integer 1)
    × Yields (expr_play (one (op.Convert I8) (number 300)) []) [] [] [] (integer 44)
    × Yields (expr_play (two (op.Binary Lt U32) (number 18446744073709551615) (number 1)) []) [] [] [] (integer 0)

-- a result is a value of its type: 200 as an int8_t is -56, the least int is its own negative, `-1u` and `~0u` are the
-- greatest unsigned int, and `!5` is 0
abbrev pub OperatorsWrap : Type 0
OperatorsWrap =
    Yields (expr_play (one (op.Convert I8) (number 200)) []) [] [] [] (integer 18446744073709551560)
    × Yields (expr_play (one (op.Negate I32) (number 18446744071562067968)) []) [] [] [] (integer 18446744071562067968)
    × Yields (expr_play (one (op.Negate U32) (number 1)) []) [] [] [] (integer 4294967295)
    × Yields (expr_play (one (op.Complement U32) (number 0)) []) [] [] [] (integer 4294967295)
    × Yields (expr_play (one (op.Not I32) (number 5)) []) [] [] [] (integer 0)

-- the least int by -1, `1 << 32` and `1 % 0` have no result; the count of a shift isn't converted, so `1 << 4294967297`
-- has none
abbrev pub OperatorsTrap : Type 0
OperatorsTrap =
    Traps (expr_play (two (op.Binary Div I32) (number 18446744071562067968) (number 18446744073709551615)) []) [] [] Divide
    × Traps (expr_play (two (op.Binary Shl I32) (number 1) (number 32)) []) [] [] Shift
    × Traps (expr_play (two (op.Binary Rem I32) (number 1) (number 0)) []) [] [] Divide
    × Traps (expr_play (two (op.Binary Shl I32) (number 1) (number 4294967297)) []) [] [] Shift

-- ---- memory

-- an integer read: Check, GetInt; it gives a value of its type
abbrev pub IntRead : Type 0
IntRead =
    (ty : IntType) (n : ℕ) →
    Yields (expr_play (one (op.Load (Integer ty)) (static 0)) []) (Granted ∷ Number n ∷ [])
    (Check (ObjectHalf 0) 65536 (bytes_of ty) false ∷ GetInt (bytes_at 0 0 (bytes_of ty)) ∷ []) [] (integer (convert_of n ty))

-- an integer store: Check, SetInt
abbrev pub IntStore : Type 0
IntStore =
    (ty : IntType) (n : ℕ) →
    Yields (expr_play (two (op.Store (Integer ty)) (static 1) (number n)) []) (Granted ∷ Done ∷ [])
    (Check (ObjectHalf 1) 66560 (bytes_of ty) true ∷ SetInt (bytes_at 1 0 (bytes_of ty)) n ∷ []) [] (integer n)

-- a refused check is a trap with its reason; want of a cell is none, since no cell is wanted
abbrev pub RefusedRead : Type 0
RefusedRead =
    Traps (expr_play (one (op.Load (Integer I32)) (number 8)) []) (Refused NoCapability ∷ [])
    (Check Nothing 8 4 false ∷ []) NoCapability

abbrev pub NoCellIsNoReason : Type 0
NoCellIsNoReason = WaitsAt (expr_play (two (op.Store (Integer I32)) (static 0) (number 8)) []) [] [] (Refused NoCell)

-- an atomic exchange: Check, RmwInt; it gives the old value
abbrev pub IntSwap : Type 0
IntSwap =
    (ty : IntType) (n v : ℕ) →
    Yields (expr_play (two (op.Swap (Integer ty)) (static 0) (number v)) []) (Granted ∷ Number n ∷ [])
    (Check (ObjectHalf 0) 65536 (bytes_of ty) true ∷ RmwInt (bytes_at 0 0 (bytes_of ty)) Set v ∷ []) [] (integer (convert_of n ty))

-- a fetch gives the old value, a compound assignment the new one: one event each
abbrev pub IntFetch : Type 0
IntFetch =
    Yields (expr_play (two (op.Fetch I32 Add I32) (static 0) (number 2)) []) (Granted ∷ Number 4294967295 ∷ [])
    (Check (ObjectHalf 0) 65536 4 true ∷ RmwInt (bytes_at 0 0 4) (Compute Add I32 I32) 2 ∷ []) [] (integer 18446744073709551615)

abbrev pub IntCombine : Type 0
IntCombine =
    Yields (expr_play (two (op.Combine I32 Add I32) (static 0) (number 2)) []) (Granted ∷ Number 4294967295 ∷ [])
    (Check (ObjectHalf 0) 65536 4 true ∷ RmwInt (bytes_at 0 0 4) (Compute Add I32 I32) 2 ∷ []) [] (integer 1)

-- `x /= 0` of an atomic x: the event, and then the trap
abbrev pub AtomicDivision : Type 0
AtomicDivision =
    Traps (expr_play (two (op.Combine I32 Div I32) (static 0) (number 0)) []) (Granted ∷ Number 7 ∷ [])
    (Check (ObjectHalf 0) 65536 4 true ∷ RmwInt (bytes_at 0 0 4) (Compute Div I32 I32) 0 ∷ []) Divide

-- a compare and exchange of an int: the expected value is read, and then Check, CasInt. It is made, and gives 1
abbrev pub IntExchange : Type 0
IntExchange =
    Yields (expr_play (three (op.Cas (Integer I32)) (static 0) (static 1) (number 9)) []) (Granted ∷ Number 7 ∷ Granted ∷ Number 7 ∷ [])
    (Check (ObjectHalf 1) 66560 4 false ∷ GetInt (bytes_at 1 0 4)
    ∷ Check (ObjectHalf 0) 65536 4 true ∷ CasInt (bytes_at 0 0 4) 7 9 ∷ []) [] (integer 1)

-- or what was found is stored over the expected value, and it gives 0
abbrev pub IntExchangeFails : Type 0
IntExchangeFails =
    Yields (expr_play (three (op.Cas (Integer I32)) (static 0) (static 1) (number 9)) [])
    (Granted ∷ Number 7 ∷ Granted ∷ Number 8 ∷ Granted ∷ Done ∷ [])
    (Check (ObjectHalf 1) 66560 4 false ∷ GetInt (bytes_at 1 0 4) ∷ Check (ObjectHalf 0) 65536 4 true ∷ CasInt (bytes_at 0 0 4) 7 9
    ∷ Check (ObjectHalf 1) 66560 4 true ∷ SetInt (bytes_at 1 0 4) 8 ∷ []) [] (integer 0)

-- -1 is expected: its four bytes are found, and it is made
abbrev pub NegativeIsExchanged : Type 0
NegativeIsExchanged =
    Yields (expr_play (three (op.Cas (Integer I32)) (static 0) (static 1) (number 9)) [])
    (Granted ∷ Number 4294967295 ∷ Granted ∷ Number 4294967295 ∷ [])
    (Check (ObjectHalf 1) 66560 4 false ∷ GetInt (bytes_at 1 0 4)
    ∷ Check (ObjectHalf 0) 65536 4 true ∷ CasInt (bytes_at 0 0 4) 18446744073709551615 9 ∷ []) [] (integer 1)

-- -1 is found where 7 is expected: it is stored as a value of its type
abbrev pub NegativeIsFound : Type 0
NegativeIsFound =
    Yields (expr_play (three (op.Cas (Integer I32)) (static 0) (static 1) (number 9)) [])
    (Granted ∷ Number 7 ∷ Granted ∷ Number 4294967295 ∷ Granted ∷ Done ∷ [])
    (Check (ObjectHalf 1) 66560 4 false ∷ GetInt (bytes_at 1 0 4) ∷ Check (ObjectHalf 0) 65536 4 true ∷ CasInt (bytes_at 0 0 4) 7 9
    ∷ Check (ObjectHalf 1) 66560 4 true ∷ SetInt (bytes_at 1 0 4) 18446744073709551615 ∷ []) [] (integer 0)

-- the bytes decide, and not the values: a `_Bool` whose byte is 5 isn't exchanged where 1 is expected, though it is 1
abbrev pub BoolExchangeFails : Type 0
BoolExchangeFails =
    Yields (expr_play (three (op.Cas (Integer BoolType)) (static 0) (static 1) (number 0)) [])
    (Granted ∷ Number 1 ∷ Granted ∷ Number 5 ∷ Granted ∷ Done ∷ [])
    (Check (ObjectHalf 1) 66560 1 false ∷ GetInt (bytes_at 1 0 1) ∷ Check (ObjectHalf 0) 65536 1 true ∷ CasInt (bytes_at 0 0 1) 1 0
    ∷ Check (ObjectHalf 1) 66560 1 true ∷ SetInt (bytes_at 1 0 1) 1 ∷ []) [] (integer 0)
