-- Worked plays of pointers that move, and of those that are looked at.
use Rattle.std.specs.Prelude.{ℕ, [], ◌∷◌}
use Rattle.filc_num.specs.declared.integer.IntType.TheVariants.{Bool as BoolType, I8, I64}
use Rattle.filc_num.specs.declared.integer.BinOp.TheVariants.{Lt, Eq}
use Rattle.c_tree.specs.declared.operation.Operation.TheVariants as op
use Rattle.ideal_machine.specs.declared.value.Half.TheVariants.{Nothing, Object as ObjectHalf, Function as FunctionHalf}
use Rattle.ideal_machine.specs.declared.event.Event.TheVariants.{Name}
use Rattle.ideal_machine.specs.declared.event.Answer.TheVariants.{Done}
use Rattle.ideal_machine.specs.Values.{integer}
use Rattle.tree_play.specs.Worked.Setting.{leaf, one, two, number, local, static, into, Yields, expr_play}

-- -1, as it is kept
abbrev pub minus_one : ℕ
minus_one = 18446744073709551615

-- arithmetic on pointers makes no event, and keeps the capability also outside of the object
abbrev pub PointersMove : Type 0
PointersMove =
    Yields (expr_play (two (op.Advance 4) (static 0) (number 3)) []) [] [] [] (into 0 12)
    × Yields (expr_play (two (op.AdvanceBy 4) (number 3) (static 0)) []) [] [] [] (into 0 12)
    × Yields (expr_play (two (op.Retreat 4) (static 1) (number 3)) []) [] [] [] (record { number = 66548; half = ObjectHalf 1 })
    × Yields (expr_play (two (op.Advance 4) (static 1) (number minus_one)) []) [] [] [] (record { number = 66556; half = ObjectHalf 1 })
    × Yields (expr_play (two (op.Retreat 8) (static 0) (number minus_one)) []) [] [] [] (into 0 8)
    × Yields (expr_play (one (op.Offset 16) (static 0)) []) [] [] [] (into 0 16)

-- an address comes round at 2 ^ 64
abbrev pub AddressesComeRound : Type 0
AddressesComeRound =
    Yields (expr_play (two (op.Advance 1) (local 0) (number 2)) (integer minus_one ∷ [])) [] [] (integer minus_one ∷ []) (integer 1)
    × Yields (expr_play (two (op.Retreat 1) (local 0) (number 2)) (integer 1 ∷ [])) [] [] (integer 1 ∷ []) (integer minus_one)

-- a function's pointer, and an integer that becomes a pointer: that has no capability
abbrev pub FunctionsHaveAddresses : Type 0
FunctionsHaveAddresses = Yields (expr_play (leaf (op.Function 2)) []) [] [] [] (record { number = 48; half = FunctionHalf 2 })

abbrev pub IntegersNameNothing : Type 0
IntegersNameNothing = Yields (expr_play (one op.ToPointer (number 65536)) []) [] [] [] (record { number = 65536; half = Nothing })

-- ---- Name of each pointer, from left to right

-- a difference is signed and truncated: 1,020 bytes are 255 ints, and back -255
abbrev pub PointersHaveDistances : Type 0
PointersHaveDistances =
    Yields (expr_play (two (op.Distance 4) (one (op.Offset 1022) (static 0)) (static 0)) []) (Done ∷ Done ∷ [])
    (Name (ObjectHalf 0) 66558 ∷ Name (ObjectHalf 0) 65536 ∷ []) [] (integer 255)
    × Yields (expr_play (two (op.Distance 4) (static 0) (one (op.Offset 1022) (static 0))) []) (Done ∷ Done ∷ [])
    (Name (ObjectHalf 0) 65536 ∷ Name (ObjectHalf 0) 66558 ∷ []) [] (integer 18446744073709551361)

-- addresses are compared, as unsigned, and capabilities aren't
abbrev pub PointersAreCompared : Type 0
PointersAreCompared =
    Yields (expr_play (two (op.Compare Lt) (static 0) (number minus_one)) []) (Done ∷ Done ∷ [])
    (Name (ObjectHalf 0) 65536 ∷ Name Nothing minus_one ∷ []) [] (integer 1)
    × Yields (expr_play (two (op.Compare Eq) (static 0) (number 65536)) []) (Done ∷ Done ∷ [])
    (Name (ObjectHalf 0) 65536 ∷ Name Nothing 65536 ∷ []) [] (integer 1)

-- a pointer as an integer, which may be a narrow one, and as a condition
abbrev pub PointersBecomeIntegers : Type 0
PointersBecomeIntegers =
    Yields (expr_play (one (op.ToInteger I64) (static 0)) []) (Done ∷ []) (Name (ObjectHalf 0) 65536 ∷ []) [] (integer 65536)
    × Yields (expr_play (one (op.ToInteger BoolType) (static 0)) []) (Done ∷ []) (Name (ObjectHalf 0) 65536 ∷ []) [] (integer 1)
    × Yields (expr_play (one (op.ToInteger BoolType) (number 0)) []) (Done ∷ []) (Name Nothing 0 ∷ []) [] (integer 0)
    × Yields (expr_play (one (op.ToInteger I8) (one (op.Offset 200) (static 0))) []) (Done ∷ []) (Name (ObjectHalf 0) 65736 ∷ []) []
    (integer 18446744073709551560)
