-- Worked plays of integers in memory.
use Rattle.std.specs.Prelude.{[], ◌∷◌, true, false}
use Rattle.filc_num.specs.declared.integer.IntType.TheVariants.{I8, I32}
use Rattle.filc_num.specs.declared.integer.BinOp.TheVariants.{Add}
use Rattle.filc_num.specs.declared.reason.Reason.TheVariants.{Bounds, ReadOnly, Freed}
use Rattle.whole_code.specs.declared.op.Op.TheVariants as op
use Rattle.ideal_machine.specs.declared.value.Half.TheVariants.{Object as ObjectHalf}
use Rattle.ideal_machine.specs.declared.event.Event.TheVariants.{Check, GetInt, SetInt, RmwInt, CasInt}
use Rattle.ideal_machine.specs.declared.event.Operation.TheVariants.{Set, Compute}
use Rattle.ideal_machine.specs.declared.event.Answer.TheVariants.{Granted, Refused, Done, Number}
use Rattle.ideal_machine.specs.Values.{integer}
use Rattle.whole_thread.specs.Worked.Setting.{into, bytes_at, Makes, Traps}

-- Check, GetInt: d becomes the bytes as a value of the type, here of an I8
abbrev pub IntegerIsLoaded : Type 0
IntegerIsLoaded =
    Makes (op.LoadInt 1 0 1) (into 0 3 ∷ integer 0 ∷ []) (Granted ∷ Number 255 ∷ [])
    (Check (ObjectHalf 0) 65539 1 false ∷ GetInt (bytes_at 0 3 1) ∷ []) (into 0 3 ∷ integer 18446744073709551615 ∷ [])
    × Traps (op.LoadInt 1 0 1) (into 0 3 ∷ integer 0 ∷ []) (Refused Bounds ∷ []) (Check (ObjectHalf 0) 65539 1 false ∷ []) Bounds

-- Check, SetInt with the whole value
abbrev pub IntegerIsStored : Type 0
IntegerIsStored =
    Makes (op.StoreInt 0 1 5) (into 0 4 ∷ integer 300 ∷ []) (Granted ∷ Done ∷ [])
    (Check (ObjectHalf 0) 65540 4 true ∷ SetInt (bytes_at 0 4 4) 300 ∷ []) (into 0 4 ∷ integer 300 ∷ [])
    × Traps (op.StoreInt 0 1 5) (into 0 4 ∷ integer 300 ∷ []) (Refused ReadOnly ∷ []) (Check (ObjectHalf 0) 65540 4 true ∷ []) ReadOnly

-- Check, RmwInt: d becomes the old value. 16 stands for Set; else an I8 is computed in I32
abbrev pub IntegerIsUpdated : Type 0
IntegerIsUpdated =
    Makes (op.RmwInt 2 0 1 16 5 5) (into 0 4 ∷ integer 9 ∷ integer 0 ∷ []) (Granted ∷ Number 7 ∷ [])
    (Check (ObjectHalf 0) 65540 4 true ∷ RmwInt (bytes_at 0 4 4) Set 9 ∷ []) (into 0 4 ∷ integer 9 ∷ integer 7 ∷ [])
    × Makes (op.RmwInt 2 0 1 0 1 5) (into 0 4 ∷ integer 9 ∷ integer 0 ∷ []) (Granted ∷ Number 254 ∷ [])
    (Check (ObjectHalf 0) 65540 1 true ∷ RmwInt (bytes_at 0 4 1) (Compute Add I8 I32) 9 ∷ [])
    (into 0 4 ∷ integer 9 ∷ integer 18446744073709551614 ∷ [])

-- Check, CasInt: d becomes the bytes that were there, as an unsigned number
abbrev pub IntegerIsExchanged : Type 0
IntegerIsExchanged =
    Makes (op.CasInt 3 0 1 2 1) (into 0 4 ∷ integer 1 ∷ integer 2 ∷ integer 0 ∷ []) (Granted ∷ Number 255 ∷ [])
    (Check (ObjectHalf 0) 65540 1 true ∷ CasInt (bytes_at 0 4 1) 1 2 ∷ []) (into 0 4 ∷ integer 1 ∷ integer 2 ∷ integer 255 ∷ [])
    × Traps (op.CasInt 3 0 1 2 1) (into 0 4 ∷ []) (Refused Freed ∷ []) (Check (ObjectHalf 0) 65540 1 true ∷ []) Freed
