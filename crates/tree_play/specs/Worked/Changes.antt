-- Worked plays of compound assignments, `++` and `--`: what is there is read, changed and stored.
use Rattle.std.specs.Prelude.{[], ◌∷◌, true, false}
use Rattle.filc_num.specs.declared.integer.IntType.TheVariants.{I8, U8, I32, U32}
use Rattle.filc_num.specs.declared.integer.BinOp.TheVariants.{Add, Div}
use Rattle.filc_num.specs.declared.reason.Reason.TheVariants.{Divide}
use Rattle.c_tree.specs.declared.operation.Operation.TheVariants as op
use Rattle.c_tree.specs.declared.operation.Access.TheVariants.{Integer, Pointer}
use Rattle.c_tree.specs.declared.operation.Change.TheVariants as change
use Rattle.ideal_machine.specs.declared.value.Half.TheVariants.{Object as ObjectHalf}
use Rattle.ideal_machine.specs.declared.value.Kept.TheVariants.{Plain as KeptPlain}
use Rattle.ideal_machine.specs.declared.value.Found.TheVariants.{Plain as FoundPlain}
use Rattle.ideal_machine.specs.declared.event.Operation.TheVariants.{Compute}
use Rattle.ideal_machine.specs.declared.event.Event.TheVariants.{Check, GetInt, SetInt, RmwInt, GetHalf, SetHalf}
use Rattle.ideal_machine.specs.declared.event.Answer.TheVariants.{Granted, Done, Number, Found}
use Rattle.ideal_machine.specs.Values.{integer}
use Rattle.tree_play.specs.Worked.Setting.{one, two, number, static, bytes_at, into, Yields, Traps, expr_play}

-- ---- integers

-- `c += 200` of an unsigned char is computed in int, and converted: 100 becomes 44. So also of a local: 250 becomes 4
abbrev pub ResultIsConverted : Type 0
ResultIsConverted =
    Yields (expr_play (two (op.Update (Integer U8) (change.Integer Add I32 U8)) (static 0) (number 200)) [])
    (Granted ∷ Number 100 ∷ Granted ∷ Done ∷ [])
    (Check (ObjectHalf 0) 65536 1 false ∷ GetInt (bytes_at 0 0 1)
    ∷ Check (ObjectHalf 0) 65536 1 true ∷ SetInt (bytes_at 0 0 1) 44 ∷ []) [] (integer 44)
    × Yields (expr_play (one (op.UpdateLocal 0 (change.Integer Add I32 U8)) (number 10)) (integer 250 ∷ [])) [] []
    (integer 4 ∷ []) (integer 4)

-- `i /= 2u` of the int -2 is computed in unsigned int
abbrev pub TypeIsTheOperators : Type 0
TypeIsTheOperators =
    Yields (expr_play (two (op.Update (Integer I32) (change.Integer Div U32 I32)) (static 0) (number 2)) [])
    (Granted ∷ Number 4294967294 ∷ Granted ∷ Done ∷ [])
    (Check (ObjectHalf 0) 65536 4 false ∷ GetInt (bytes_at 0 0 4)
    ∷ Check (ObjectHalf 0) 65536 4 true ∷ SetInt (bytes_at 0 0 4) 2147483647 ∷ []) [] (integer 2147483647)

-- `++c` of an atomic signed char that is 127 gives -128, and `c++` gives 127
abbrev pub AtomicResultIsConverted : Type 0
AtomicResultIsConverted =
    Yields (expr_play (two (op.Combine I8 Add I32) (static 0) (number 1)) []) (Granted ∷ Number 127 ∷ [])
    (Check (ObjectHalf 0) 65536 1 true ∷ RmwInt (bytes_at 0 0 1) (Compute Add I8 I32) 1 ∷ []) [] (integer 18446744073709551488)
    × Yields (expr_play (two (op.Fetch I8 Add I32) (static 0) (number 1)) []) (Granted ∷ Number 127 ∷ [])
    (Check (ObjectHalf 0) 65536 1 true ∷ RmwInt (bytes_at 0 0 1) (Compute Add I8 I32) 1 ∷ []) [] (integer 127)

-- `x /= 0` is read, and traps before it is checked for its store
abbrev pub NothingIsStored : Type 0
NothingIsStored =
    Traps (expr_play (two (op.Update (Integer I32) (change.Integer Div I32 I32)) (static 0) (number 0)) []) (Granted ∷ Number 7 ∷ [])
    (Check (ObjectHalf 0) 65536 4 false ∷ GetInt (bytes_at 0 0 4) ∷ []) Divide

-- ---- pointers

-- `p += 2` and `p--` of an int* in memory: both halves are read and stored, and the capability stays
abbrev pub PointersAreChanged : Type 0
PointersAreChanged =
    Yields (expr_play (two (op.Update Pointer (change.Advance 4)) (static 0) (number 2)) [])
    (Granted ∷ Found (FoundPlain (ObjectHalf 1)) ∷ Number 66560 ∷ Granted ∷ Done ∷ Done ∷ [])
    (Check (ObjectHalf 0) 65536 8 false ∷ GetHalf 0 0 ∷ GetInt (bytes_at 0 0 8)
    ∷ Check (ObjectHalf 0) 65536 8 true ∷ SetInt (bytes_at 0 0 8) 66568 ∷ SetHalf 0 0 (KeptPlain (ObjectHalf 1)) ∷ []) [] (into 1 8)
    × Yields (expr_play (two (op.Step Pointer (change.Retreat 4)) (static 0) (number 1)) [])
    (Granted ∷ Found (FoundPlain (ObjectHalf 1)) ∷ Number 66560 ∷ Granted ∷ Done ∷ Done ∷ [])
    (Check (ObjectHalf 0) 65536 8 false ∷ GetHalf 0 0 ∷ GetInt (bytes_at 0 0 8)
    ∷ Check (ObjectHalf 0) 65536 8 true ∷ SetInt (bytes_at 0 0 8) 66556 ∷ SetHalf 0 0 (KeptPlain (ObjectHalf 1)) ∷ []) [] (into 1 0)

-- `p++` of a char* that is a local gives the old pointer, `p -= 1` of an int* the new one
abbrev pub LocalPointersAreChanged : Type 0
LocalPointersAreChanged =
    Yields (expr_play (one (op.StepLocal 0 (change.Advance 1)) (number 1)) (into 1 4 ∷ [])) [] [] (into 1 5 ∷ []) (into 1 4)
    × Yields (expr_play (one (op.UpdateLocal 0 (change.Retreat 4)) (number 1)) (into 1 4 ∷ [])) [] [] (into 1 0 ∷ []) (into 1 0)
