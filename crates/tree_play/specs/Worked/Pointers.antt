-- Worked plays of pointers in memory: a row of the table of events each.
use Rattle.std.specs.Prelude.{ℕ, [], ◌∷◌, true, false}
use Rattle.filc_num.specs.declared.integer.IntType.TheVariants.{I8}
use Rattle.filc_num.specs.declared.reason.Reason.TheVariants.{Bounds, NoCell}
use Rattle.c_tree.specs.declared.operation.Operation.TheVariants as op
use Rattle.c_tree.specs.declared.operation.Access.TheVariants.{Integer, Pointer, Box}
use Rattle.ideal_machine.specs.declared.value.Half.{Half}
use Rattle.ideal_machine.specs.declared.value.Half.TheVariants.{Nothing, Freed, Object as ObjectHalf}
use Rattle.ideal_machine.specs.declared.value.Kept.TheVariants.{Plain as KeptPlain, Pair as KeptPair}
use Rattle.ideal_machine.specs.declared.value.Found.TheVariants.{Plain as FoundPlain, Pair as FoundPair}
use Rattle.ideal_machine.specs.declared.event.Seen.TheVariants.{Any}
use Rattle.ideal_machine.specs.declared.event.Event.TheVariants.{Check, GetInt, SetInt, GetHalf, Open, SetHalf, CasHalf}
use Rattle.ideal_machine.specs.declared.event.Answer.TheVariants.{Granted, Refused, Done, Number, Found, Opened}
use Rattle.ideal_machine.specs.Values.{integer}
use Rattle.tree_play.specs.Worked.Setting.{one, two, static, bytes_at, into, Yields, Traps, expr_play}

-- a pointer read: Check, GetHalf, GetInt; it gives the integer as the address, and the half
abbrev pub PointerRead : Type 0
PointerRead =
    (half : Half) (n : ℕ) →
    Yields (expr_play (one (op.Load Pointer) (static 0)) []) (Granted ∷ Found (FoundPlain half) ∷ Number n ∷ [])
    (Check (ObjectHalf 0) 65536 8 false ∷ GetHalf 0 0 ∷ GetInt (bytes_at 0 0 8) ∷ []) [] (record { number = n; half = half })

-- where a pair was found it is opened; so also of an atomic pointer, and in the second word of an object
abbrev pub PairRead : Type 0
PairRead =
    (half : Half) (pair n : ℕ) →
    Yields (expr_play (one (op.Load Box) (one (op.Offset 8) (static 0))) []) (Granted ∷ Found (FoundPair pair) ∷ Opened n half ∷ [])
    (Check (ObjectHalf 0) 65544 8 false ∷ GetHalf 0 1 ∷ Open pair ∷ []) [] (record { number = n; half = half })

-- a pointer store: Check, SetInt, SetHalf
abbrev pub PointerStore : Type 0
PointerStore =
    Yields (expr_play (two (op.Store Pointer) (static 0) (static 1)) []) (Granted ∷ Done ∷ Done ∷ [])
    (Check (ObjectHalf 0) 65536 8 true ∷ SetInt (bytes_at 0 0 8) 66560 ∷ SetHalf 0 0 (KeptPlain (ObjectHalf 1)) ∷ []) [] (into 1 0)

-- an atomic pointer store: Check, SetHalf of a pair
abbrev pub PairStore : Type 0
PairStore =
    Yields (expr_play (two (op.Store Box) (static 0) (static 1)) []) (Granted ∷ Done ∷ [])
    (Check (ObjectHalf 0) 65536 8 true ∷ SetHalf 0 0 (KeptPair 66560 (ObjectHalf 1)) ∷ []) [] (into 1 0)

-- an atomic pointer exchange: Check, CasHalf with Any and a pair, then Open or GetInt; it gives the old pointer
abbrev pub PairSwap : Type 0
PairSwap =
    Yields (expr_play (two (op.Swap Box) (static 0) (static 1)) []) (Granted ∷ Found (FoundPair 4) ∷ Opened 9 Freed ∷ [])
    (Check (ObjectHalf 0) 65536 8 true ∷ CasHalf 0 0 Any (KeptPair 66560 (ObjectHalf 1)) ∷ Open 4 ∷ []) []
    (record { number = 9; half = Freed })

abbrev pub PlainSwap : Type 0
PlainSwap =
    Yields (expr_play (two (op.Swap Box) (static 0) (static 1)) []) (Granted ∷ Found (FoundPlain Nothing) ∷ Number 9 ∷ [])
    (Check (ObjectHalf 0) 65536 8 true ∷ CasHalf 0 0 Any (KeptPair 66560 (ObjectHalf 1)) ∷ GetInt (bytes_at 0 0 8) ∷ []) [] (integer 9)

-- each of these may find no cell
abbrev pub NoCellTraps : Type 0
NoCellTraps =
    Traps (expr_play (two (op.Store Pointer) (static 0) (static 1)) []) (Refused NoCell ∷ []) (Check (ObjectHalf 0) 65536 8 true ∷ []) NoCell
    × Traps (expr_play (two (op.Store Box) (static 0) (static 1)) []) (Refused NoCell ∷ []) (Check (ObjectHalf 0) 65536 8 true ∷ []) NoCell
    × Traps (expr_play (two (op.Swap Box) (static 0) (static 1)) []) (Refused NoCell ∷ []) (Check (ObjectHalf 0) 65536 8 true ∷ []) NoCell

-- a pair of halves that was torn by another thread's store, read back: the address of one object with the capability of
-- another, which its check refuses
abbrev pub TornRead : Type 0
TornRead =
    Traps (expr_play (one (op.Load (Integer I8)) (one (op.Load Pointer) (static 0))) [])
    (Granted ∷ Found (FoundPlain (ObjectHalf 1)) ∷ Number 65536 ∷ Refused Bounds ∷ [])
    (Check (ObjectHalf 0) 65536 8 false ∷ GetHalf 0 0 ∷ GetInt (bytes_at 0 0 8) ∷ Check (ObjectHalf 1) 65536 1 false ∷ []) Bounds
