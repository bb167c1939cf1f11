-- Worked plays of instructions that make rounds: each further one is a jump to the instruction itself, behind its check.
use Rattle.std.specs.Prelude.{List, [], ◌∷◌, true}
use Rattle.filc_num.specs.declared.reason.Reason.TheVariants.{Freed}
use Rattle.whole_code.specs.declared.op.Op.{Op}
use Rattle.whole_code.specs.declared.op.Op.TheVariants as op
use Rattle.ideal_machine.specs.declared.value.Half.TheVariants.{Nothing, Freed as FreedHalf, Object as ObjectHalf}
use Rattle.ideal_machine.specs.declared.value.Kept.TheVariants.{Pair as KeptPair}
use Rattle.ideal_machine.specs.declared.value.Found.TheVariants.{Plain as FoundPlain, Pair as FoundPair}
use Rattle.ideal_machine.specs.declared.value.Value.{Value}
use Rattle.ideal_machine.specs.declared.event.Seen.TheVariants.{Found as SeenFound}
use Rattle.ideal_machine.specs.declared.event.Event.TheVariants.{Check, GetInt, GetHalf, Open, Name, CasHalf, Lock}
use Rattle.ideal_machine.specs.declared.event.Answer.TheVariants.{Granted, Refused, Done, Number, Found, Opened}
use Rattle.ideal_machine.specs.Values.{integer}
use Rattle.whole_thread.specs.Standing.{Standing, onward, in_round}
use Rattle.whole_thread.specs.Worked.Setting.{into, bytes_at, standing, Goes, Makes, Traps}

-- ---- locks

-- a lock whose check was made, and granted
abbrev pub waiting : Standing
waiting = in_round (standing (into 0 4 ∷ [])) (bytes_at 0 4 4)

-- Check, Lock
abbrev pub LockIsTaken : Type 0
LockIsTaken =
    Makes (op.Lock 0) (into 0 4 ∷ []) (Granted ∷ Done ∷ []) (Check (ObjectHalf 0) 65540 4 true ∷ Lock 0 4 ∷ []) (into 0 4 ∷ [])

-- the check is made again as often as it is answered, and a reason traps
abbrev pub LockIsCheckedAgain : Type 0
LockIsCheckedAgain =
    Goes (op.Lock 0) (standing (into 0 4 ∷ [])) (Granted ∷ Granted ∷ [])
    (Check (ObjectHalf 0) 65540 4 true ∷ Check (ObjectHalf 0) 65540 4 true ∷ []) 1 waiting
    × Goes (op.Lock 0) waiting (Granted ∷ []) (Check (ObjectHalf 0) 65540 4 true ∷ []) 1 waiting
    × Goes (op.Lock 0) waiting (Done ∷ []) (Lock 0 4 ∷ []) 0 (onward (standing (into 0 4 ∷ [])))

abbrev pub LockIsRefused : Type 0
LockIsRefused =
    Traps (op.Lock 0) (into 0 4 ∷ []) (Refused Freed ∷ []) (Check (ObjectHalf 0) 65540 4 true ∷ []) Freed
    × Traps (op.Lock 0) (into 0 4 ∷ []) (Granted ∷ Refused Freed ∷ [])
    (Check (ObjectHalf 0) 65540 4 true ∷ Check (ObjectHalf 0) 65540 4 true ∷ []) Freed

-- ---- compare and exchange: the pointer in object 0, one to object 1 expected, one to object 2 desired

abbrev pub operands : (found made : Value) → List Value
operands found made = into 0 0 ∷ into 1 0 ∷ into 2 0 ∷ found ∷ made ∷ []

abbrev pub before : List Value
before = operands (integer 0) (integer 0)

abbrev pub exchange : Op
exchange = op.BoxCas 3 4 0 1 2

-- a pair of the expected address is found and replaced: d has the pointer, and w is 1
abbrev pub ExchangeIsMade : Type 0
ExchangeIsMade =
    Makes exchange before (Granted ∷ Found (FoundPair 4) ∷ Opened 66560 FreedHalf ∷ Done ∷ Found (FoundPair 4) ∷ [])
    (Check (ObjectHalf 0) 65536 8 true ∷ GetHalf 0 0 ∷ Open 4 ∷ Name (ObjectHalf 1) 66560
    ∷ CasHalf 0 0 (SeenFound (FoundPair 4)) (KeptPair 67584 (ObjectHalf 2)) ∷ [])
    (operands (record { number = 66560; half = FreedHalf }) (integer 1))

-- another address is found: w is 0
abbrev pub ExchangeFails : Type 0
ExchangeFails =
    Makes exchange before (Granted ∷ Found (FoundPlain Nothing) ∷ Number 8 ∷ Done ∷ [])
    (Check (ObjectHalf 0) 65536 8 true ∷ GetHalf 0 0 ∷ GetInt (bytes_at 0 0 8) ∷ Name (ObjectHalf 1) 66560 ∷ [])
    (operands (integer 8) (integer 0))

-- another pair was there by then: once more from GetHalf, without a check
abbrev pub ExchangeIsTriedAgain : Type 0
ExchangeIsTriedAgain =
    Goes exchange (standing before) (Granted ∷ Found (FoundPair 4) ∷ Opened 66560 FreedHalf ∷ Done ∷ Found (FoundPair 5) ∷ [])
    (Check (ObjectHalf 0) 65536 8 true ∷ GetHalf 0 0 ∷ Open 4 ∷ Name (ObjectHalf 1) 66560
    ∷ CasHalf 0 0 (SeenFound (FoundPair 4)) (KeptPair 67584 (ObjectHalf 2)) ∷ []) 1
    (in_round (standing before) (bytes_at 0 0 8))
    × Goes exchange (in_round (standing before) (bytes_at 0 0 8)) (Found (FoundPlain Nothing) ∷ Number 8 ∷ Done ∷ [])
    (GetHalf 0 0 ∷ GetInt (bytes_at 0 0 8) ∷ Name (ObjectHalf 1) 66560 ∷ []) 0
    (onward (standing (operands (integer 8) (integer 0))))
