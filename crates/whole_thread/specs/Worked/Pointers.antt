-- Worked plays of pointers in memory.
use Rattle.std.specs.Prelude.{ℕ, [], ◌∷◌, true, false}
use Rattle.filc_num.specs.declared.reason.Reason.TheVariants.{NoCell}
use Rattle.whole_code.specs.declared.op.Op.TheVariants as op
use Rattle.ideal_machine.specs.declared.value.Half.{Half}
use Rattle.ideal_machine.specs.declared.value.Half.TheVariants.{Nothing, Object as ObjectHalf}
use Rattle.ideal_machine.specs.declared.value.Kept.TheVariants.{Plain as KeptPlain, Pair as KeptPair}
use Rattle.ideal_machine.specs.declared.value.Found.TheVariants.{Plain as FoundPlain, Pair as FoundPair}
use Rattle.ideal_machine.specs.declared.event.Seen.TheVariants.{Any}
use Rattle.ideal_machine.specs.declared.event.Event.TheVariants.{Check, GetInt, SetInt, GetHalf, Open, SetHalf, CasHalf}
use Rattle.ideal_machine.specs.declared.event.Answer.TheVariants.{Granted, Refused, Done, Number, Found, Opened}
use Rattle.ideal_machine.specs.Values.{integer}
use Rattle.whole_thread.specs.Worked.Setting.{into, bytes_at, Makes, Traps}

-- Check, GetHalf, then GetInt, or Open where a pair was found
abbrev pub PointerIsLoaded : Type 0
PointerIsLoaded =
    (half : Half) (pair n : ℕ) →
    Makes (op.LoadPointer 0 0) (into 0 8 ∷ []) (Granted ∷ Found (FoundPlain half) ∷ Number n ∷ [])
    (Check (ObjectHalf 0) 65544 8 false ∷ GetHalf 0 1 ∷ GetInt (bytes_at 0 8 8) ∷ []) (record { number = n; half = half } ∷ [])
    × Makes (op.LoadPointer 0 0) (into 0 8 ∷ []) (Granted ∷ Found (FoundPair pair) ∷ Opened n half ∷ [])
    (Check (ObjectHalf 0) 65544 8 false ∷ GetHalf 0 1 ∷ Open pair ∷ []) (record { number = n; half = half } ∷ [])

-- Check, SetInt, SetHalf
abbrev pub PointerIsStored : Type 0
PointerIsStored =
    Makes (op.StorePointer 0 1) (into 0 0 ∷ into 1 4 ∷ []) (Granted ∷ Done ∷ Done ∷ [])
    (Check (ObjectHalf 0) 65536 8 true ∷ SetInt (bytes_at 0 0 8) 66564 ∷ SetHalf 0 0 (KeptPlain (ObjectHalf 1)) ∷ []) (into 0 0 ∷ into 1 4 ∷ [])

-- Check, SetHalf of a pair
abbrev pub PairIsStored : Type 0
PairIsStored =
    Makes (op.BoxStore 0 1) (into 0 0 ∷ into 1 4 ∷ []) (Granted ∷ Done ∷ [])
    (Check (ObjectHalf 0) 65536 8 true ∷ SetHalf 0 0 (KeptPair 66564 (ObjectHalf 1)) ∷ []) (into 0 0 ∷ into 1 4 ∷ [])

-- Check, CasHalf with Any and a pair, then Open, or GetInt; d becomes the old pointer
abbrev pub PairIsSwapped : Type 0
PairIsSwapped =
    Makes (op.BoxSwap 2 0 1) (into 0 0 ∷ into 1 4 ∷ integer 0 ∷ []) (Granted ∷ Found (FoundPair 4) ∷ Opened 9 Nothing ∷ [])
    (Check (ObjectHalf 0) 65536 8 true ∷ CasHalf 0 0 Any (KeptPair 66564 (ObjectHalf 1)) ∷ Open 4 ∷ []) (into 0 0 ∷ into 1 4 ∷ integer 9 ∷ [])
    × Makes (op.BoxSwap 2 0 1) (into 0 0 ∷ into 1 4 ∷ integer 0 ∷ []) (Granted ∷ Found (FoundPlain Nothing) ∷ Number 9 ∷ [])
    (Check (ObjectHalf 0) 65536 8 true ∷ CasHalf 0 0 Any (KeptPair 66564 (ObjectHalf 1)) ∷ GetInt (bytes_at 0 0 8) ∷ []) (into 0 0 ∷ into 1 4 ∷ integer 9 ∷ [])

-- each that stores may find no cell
abbrev pub NoCellTraps : Type 0
NoCellTraps =
    Traps (op.StorePointer 0 1) (into 0 0 ∷ into 1 4 ∷ []) (Refused NoCell ∷ []) (Check (ObjectHalf 0) 65536 8 true ∷ []) NoCell
    × Traps (op.BoxStore 0 1) (into 0 0 ∷ into 1 4 ∷ []) (Refused NoCell ∷ []) (Check (ObjectHalf 0) 65536 8 true ∷ []) NoCell
    × Traps (op.BoxSwap 2 0 1) (into 0 0 ∷ into 1 4 ∷ []) (Refused NoCell ∷ []) (Check (ObjectHalf 0) 65536 8 true ∷ []) NoCell
    × Traps (op.BoxCas 2 3 0 1 1) (into 0 0 ∷ into 1 4 ∷ []) (Refused NoCell ∷ []) (Check (ObjectHalf 0) 65536 8 true ∷ []) NoCell
