-- Worked plays of instructions on registers alone, and of jumps.
use Rattle.std.specs.Prelude.{[], ◌∷◌}
use Rattle.filc_num.specs.declared.reason.Reason.TheVariants.{Divide, Shift}
use Rattle.whole_code.specs.declared.op.Op.TheVariants as op
use Rattle.ideal_machine.specs.declared.value.Half.TheVariants.{Nothing, Object as ObjectHalf}
use Rattle.ideal_machine.specs.declared.event.Event.TheVariants.{Name}
use Rattle.ideal_machine.specs.declared.event.Answer.TheVariants.{Done}
use Rattle.ideal_machine.specs.Values.{integer}
use Rattle.whole_thread.specs.Standing.{at_index, onward}
use Rattle.whole_thread.specs.Worked.Setting.{into, function, minus_one, standing, Goes, Makes, Traps}

-- d becomes a constant, a register with its half, a pointer to a static object or a function, the thread's id
abbrev pub RegistersAreSet : Type 0
RegistersAreSet =
    Makes (op.Const 1 7) (into 0 0 ∷ into 0 8 ∷ []) [] [] (into 0 0 ∷ integer 7 ∷ [])
    × Makes (op.Move 1 0) (into 0 8 ∷ integer 4 ∷ []) [] [] (into 0 8 ∷ into 0 8 ∷ [])
    × Makes (op.StaticAt 0 1) (integer 3 ∷ []) [] [] (into 1 0 ∷ [])
    × Makes (op.FunctionAt 0 2) (integer 3 ∷ []) [] [] (function 2 ∷ [])
    × Makes (op.SelfId 0) (integer 3 ∷ []) [] [] (integer 65 ∷ [])

-- a poll makes no event
abbrev pub PollsAreSilent : Type 0
PollsAreSilent = Makes op.Poll (into 0 8 ∷ []) [] [] (into 0 8 ∷ [])

-- 300 and 200 as an I8; 2147483647 + 1 as an I32
abbrev pub IntegersAreComputed : Type 0
IntegersAreComputed =
    Makes (op.Convert 0 0 1) (integer 300 ∷ []) [] [] (integer 44 ∷ [])
    × Makes (op.Convert 0 0 1) (integer 200 ∷ []) [] [] (integer 18446744073709551560 ∷ [])
    × Makes (op.Binary 2 0 1 0 5) (integer 2147483647 ∷ integer 1 ∷ integer 0 ∷ []) [] []
    (integer 2147483647 ∷ integer 1 ∷ integer 18446744071562067968 ∷ [])

-- 5 / 0, and 1 << 32, as an I32
abbrev pub ArithmeticTraps : Type 0
ArithmeticTraps =
    Traps (op.Binary 0 0 1 3 5) (integer 5 ∷ integer 0 ∷ []) [] [] Divide
    × Traps (op.Binary 0 0 1 8 5) (integer 1 ∷ integer 32 ∷ []) [] [] Shift

-- a pointer moves by elements of 4 bytes, forward and back, and keeps its capability; an integer has none
abbrev pub PointersMove : Type 0
PointersMove =
    Makes (op.PointerAdd 0 0 1 4) (into 0 0 ∷ integer 3 ∷ []) [] [] (into 0 12 ∷ integer 3 ∷ [])
    × Makes (op.PointerAdd 0 0 1 4) (into 0 12 ∷ integer minus_one ∷ []) [] [] (into 0 8 ∷ integer minus_one ∷ [])
    × Makes (op.ToPointer 0 0) (into 0 0 ∷ []) [] [] (integer 65536 ∷ [])

-- pointers are named from left to right: the elements from b to a, a < b, and an address as a U64 and as a _Bool
abbrev pub PointersAreLookedAt : Type 0
PointersAreLookedAt =
    Makes (op.PointerSub 0 0 1 4) (into 0 4 ∷ into 0 12 ∷ []) (Done ∷ Done ∷ [])
    (Name (ObjectHalf 0) 65540 ∷ Name (ObjectHalf 0) 65548 ∷ []) (integer 18446744073709551614 ∷ into 0 12 ∷ [])
    × Makes (op.PointerCompare 0 0 1 10) (into 0 4 ∷ integer minus_one ∷ []) (Done ∷ Done ∷ [])
    (Name (ObjectHalf 0) 65540 ∷ Name Nothing minus_one ∷ []) (integer 1 ∷ integer minus_one ∷ [])
    × Makes (op.ToInteger 0 0 8) (into 0 4 ∷ []) (Done ∷ []) (Name (ObjectHalf 0) 65540 ∷ []) (integer 65540 ∷ [])
    × Makes (op.ToInteger 0 0 0) (into 0 4 ∷ []) (Done ∷ []) (Name (ObjectHalf 0) 65540 ∷ []) (integer 1 ∷ [])

-- from index 8: a jump forward isn't counted; one back, or to itself, is
abbrev pub JumpsAreCounted : Type 0
JumpsAreCounted =
    Goes (op.Jump 9) (standing []) [] [] 0 (at_index (standing []) 9)
    × Goes (op.Jump 8) (standing []) [] [] 1 (at_index (standing []) 8)
    × Goes (op.Jump 3) (standing []) [] [] 1 (at_index (standing []) 3)

-- a jump on zero
abbrev pub JumpsOnZero : Type 0
JumpsOnZero =
    Goes (op.JumpZero 0 3) (standing (integer 0 ∷ [])) [] [] 1 (at_index (standing (integer 0 ∷ [])) 3)
    × Goes (op.JumpZero 0 3) (standing (integer 5 ∷ [])) [] [] 0 (onward (standing (integer 5 ∷ [])))
