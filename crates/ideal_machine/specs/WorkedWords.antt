-- Worked examples of the transitions on words: integers, halves, pairs and locks, in the memory of one object of 16 bytes.
use Rattle.std.specs.Prelude.{◌≡◌, ℕ, ◌-◌, ◌^◌}
use Rattle.filc_num.specs.declared.integer.IntType.TheVariants.{I8, I16, I32}
use Rattle.filc_num.specs.declared.integer.BinOp.TheVariants.{Add, Div}
use Rattle.ideal_machine.specs.declared.value.Half.TheVariants.{Nothing, Freed, Object as ObjectHalf, Function}
use Rattle.ideal_machine.specs.declared.value.Kept.TheVariants as kept
use Rattle.ideal_machine.specs.declared.value.Found.TheVariants.{Plain, Pair}
use Rattle.ideal_machine.specs.declared.event.Access.{Access}
use Rattle.ideal_machine.specs.declared.event.Operation.TheVariants.{Set, Compute}
use Rattle.ideal_machine.specs.declared.event.Seen.TheVariants.{Any, Found as SeenFound}
use Rattle.ideal_machine.specs.declared.event.Event.TheVariants.{GetInt, SetInt, RmwInt, CasInt, GetHalf, Open, SetHalf, CasHalf, Void, Lock, Spawn, Begin}
use Rattle.ideal_machine.specs.declared.event.Answer.TheVariants.{Granted, Done, Number, Found, Opened}
use Rattle.ideal_machine.specs.Memory.{Memory, word_at}
use Rattle.ideal_machine.specs.Allows.{IsAllowed}
use Rattle.ideal_machine.specs.Words.{half_at}
use Rattle.ideal_machine.specs.Worked.{world}
use Rattle.ideal_machine.specs.WorkedObjects.{May, MayNot, after, with_one}

-- ---- integers

-- so many bytes of the object, from an offset
abbrev pub bytes_at : (offset width : ℕ) → Access
bytes_at offset width = record { object = 0; offset = offset; width = width }

-- the bytes 1, 2, 3, 4 from offset 4 on
abbrev pub with_four : Memory
with_four = after with_one (SetInt (bytes_at 4 4) 67305985) Done

-- a store puts the low bytes of its value there, the lowest first, and leaves all others
abbrev pub IntegersAreStoredInBytes : Type 0
IntegersAreStoredInBytes =
    May with_one (SetInt (bytes_at 4 4) 67305985) Done
    × (word_at with_four 0 0 ≡ record { integer = 289077004400066560; half = Plain Nothing })
    × May with_four (GetInt (bytes_at 4 4)) (Number 67305985) × May with_four (GetInt (bytes_at 5 1)) (Number 2)
    × May with_four (GetInt (bytes_at 6 2)) (Number 1027) × May with_four (GetInt (bytes_at 0 4)) (Number 0)
    × May (after with_four (SetInt (bytes_at 5 1) 511) Done) (GetInt (bytes_at 4 4)) (Number 67370753)
    × MayNot with_four (GetInt (bytes_at 4 4)) (Number 0)

-- an access lies inside its object and is aligned, and has a width that there is
abbrev pub AccessesAreInside : Type 0
AccessesAreInside =
    May with_one (GetInt (bytes_at 12 4)) (Number 0) × MayNot with_one (GetInt (bytes_at 16 1)) (Number 0)
    × MayNot with_one (GetInt (bytes_at 16 4)) (Number 0) × MayNot with_one (SetInt (bytes_at (2 ^ 64 - 4) 8) 1) Done
    × MayNot with_one (GetInt (bytes_at 2 4)) (Number 0) × MayNot with_one (SetInt (bytes_at 0 3) 1) Done
    × MayNot with_one (GetInt (record { object = 1; offset = 0; width = 1 })) (Number 0)

-- the byte -1 at offset 3
abbrev pub with_minus_one : Memory
with_minus_one = after with_one (SetInt (bytes_at 3 1) 255) Done

-- an operation converts the old bytes to the object's type, computes in the other and converts back: -1 + 1 in a byte
abbrev pub OperationsAreComputedInTheirTypes : Type 0
OperationsAreComputedInTheirTypes =
    May with_minus_one (RmwInt (bytes_at 3 1) (Compute Add I8 I32) 1) (Number 255)
    × (after with_minus_one (RmwInt (bytes_at 3 1) (Compute Add I8 I32) 1) (Number 255) ≡ with_one)
    × May with_minus_one (RmwInt (bytes_at 3 1) Set 7) (Number 255)
    × (after with_one (RmwInt (bytes_at 3 1) Set 255) (Number 0) ≡ with_minus_one)

-- the first type is of the access's width, and the second that of a promoted operand
abbrev pub OperationsFitTheirAccess : Type 0
OperationsFitTheirAccess =
    MayNot with_minus_one (RmwInt (bytes_at 3 1) Set 7) (Number 7)
    × MayNot with_minus_one (RmwInt (bytes_at 3 1) (Compute Add I16 I32) 1) (Number 255)
    × MayNot with_minus_one (RmwInt (bytes_at 3 1) (Compute Add I8 I8) 1) (Number 255)

-- one without a result changes nothing
abbrev pub RefusedOperationsChangeNothing : Type 0
RefusedOperationsChangeNothing =
    May with_four (RmwInt (bytes_at 4 4) (Compute Div I32 I32) 0) (Number 67305985)
    × (after with_four (RmwInt (bytes_at 4 4) (Compute Div I32 I32) 0) (Number 67305985) ≡ with_four)

-- an exchange puts the desired integer there exactly where the old one is the expected one, by the bytes of the access
abbrev pub ExchangesCompareTheBytes : Type 0
ExchangesCompareTheBytes =
    May with_minus_one (CasInt (bytes_at 3 1) (2 ^ 64 - 1) 0) (Number 255)
    × (after with_minus_one (CasInt (bytes_at 3 1) (2 ^ 64 - 1) 0) (Number 255) ≡ with_one)
    × (after with_minus_one (CasInt (bytes_at 3 1) 254 0) (Number 255) ≡ with_minus_one)
    × MayNot with_minus_one (CasInt (bytes_at 3 1) (2 ^ 64 - 1) 0) (Number 254)

-- ---- halves

abbrev pub with_self : Memory
with_self = after with_one (SetHalf 0 1 (kept.Plain (ObjectHalf 0))) Done

-- a half is stored beside its integer, and a store of either leaves the other
abbrev pub HalvesAreApart : Type 0
HalvesAreApart =
    May with_one (SetHalf 0 1 (kept.Plain (ObjectHalf 0))) Done
    × (word_at with_self 0 1 ≡ record { integer = 0; half = Plain (ObjectHalf 0) })
    × (word_at (after with_self (SetInt (bytes_at 8 8) 5) Done) 0 1 ≡ record { integer = 5; half = Plain (ObjectHalf 0) })
    × (word_at (after with_four (SetHalf 0 0 (kept.Plain (Function 2))) Done) 0 0 ≡ record { integer = 289077004400066560; half = Plain (Function 2) })
    × MayNot with_one (SetHalf 0 2 (kept.Plain Nothing)) Done
    × MayNot with_one (SetHalf 0 1 (kept.Plain (ObjectHalf 1))) Done

-- what was stored is found, or Freed in place of it once its object is freed
abbrev pub HalvesAreFound : Type 0
HalvesAreFound =
    let freed = after with_self (Void (ObjectHalf 0) 65536) Granted in
    May with_self (GetHalf 0 1) (Found (Plain (ObjectHalf 0))) × MayNot with_self (GetHalf 0 1) (Found (Plain Freed))
    × MayNot with_self (GetHalf 0 1) (Found (Plain Nothing)) × MayNot with_self (GetHalf 0 2) (Found (Plain Nothing))
    × May freed (GetHalf 0 1) (Found (Plain (ObjectHalf 0))) × May freed (GetHalf 0 1) (Found (Plain Freed))

-- a pair is found by its number, and opened
abbrev pub with_pair_stored : Memory
with_pair_stored = after with_one (SetHalf 0 0 (kept.Pair 65540 (ObjectHalf 0))) Done

abbrev pub PairsAreFoundByNumber : Type 0
PairsAreFoundByNumber =
    May with_one (SetHalf 0 0 (kept.Pair 65540 (ObjectHalf 0))) Done
    × May with_pair_stored (GetHalf 0 0) (Found (Pair 0))
    × MayNot with_pair_stored (GetHalf 0 0) (Found (Plain (ObjectHalf 0)))
    × May with_pair_stored (Open 0) (Opened 65540 (ObjectHalf 0))
    × MayNot with_pair_stored (Open 0) (Opened 65536 (ObjectHalf 0))
    × MayNot with_pair_stored (Open 1) (Opened 65540 (ObjectHalf 0))
    × MayNot with_pair_stored (Open 0) (Opened 65540 Freed)
    × May (after with_pair_stored (Void (ObjectHalf 0) 65536) Granted) (Open 0) (Opened 65540 Freed)
    × (half_at (after with_pair_stored (SetHalf 0 1 (kept.Pair 0 Nothing)) Done) 0 1 ≡ Pair 1)

-- an exchange is made exactly where what is answered is what it expects
abbrev pub HalvesAreExchanged : Type 0
HalvesAreExchanged =
    let seen_self = SeenFound (Plain (ObjectHalf 0)) in
    let seen_pair = SeenFound (Pair 0) in
    May with_self (CasHalf 0 1 seen_self (kept.Plain Nothing)) (Found (Plain (ObjectHalf 0)))
    × (after with_self (CasHalf 0 1 seen_self (kept.Plain Nothing)) (Found (Plain (ObjectHalf 0))) ≡ with_one)
    × (after with_self (CasHalf 0 1 Any (kept.Plain Nothing)) (Found (Plain (ObjectHalf 0))) ≡ with_one)
    × (after with_self (CasHalf 0 1 seen_pair (kept.Plain Nothing)) (Found (Plain (ObjectHalf 0))) ≡ with_self)
    × May with_pair_stored (CasHalf 0 0 seen_self (kept.Plain Nothing)) (Found (Pair 0))
    × (after with_pair_stored (CasHalf 0 0 seen_self (kept.Plain Nothing)) (Found (Pair 0)) ≡ with_pair_stored)
    × (half_at (after with_pair_stored (CasHalf 0 0 seen_pair (kept.Pair 8 Nothing)) (Found (Pair 0))) 0 0 ≡ Pair 1)
    × MayNot with_self (CasHalf 0 1 seen_self (kept.Plain Nothing)) (Found (Plain Nothing))

-- ---- locks

-- a lock is taken where its 4 bytes are 0, and they become 1
abbrev pub LocksAreTakenOnce : Type 0
LocksAreTakenOnce =
    May with_one (Lock 0 8) Done × (after with_one (Lock 0 8) Done ≡ after with_one (SetInt (bytes_at 8 4) 1) Done)
    × MayNot (after with_one (Lock 0 8) Done) (Lock 0 8) Done × MayNot with_one (Lock 0 16) Done
    × MayNot with_one (Lock 0 10) Done

-- ---- threads

-- a thread is started with the half of this object, which is freed then
abbrev pub with_started : Memory
with_started = after with_one (Spawn 2 65536 (ObjectHalf 0)) (Number 1)

abbrev pub with_started_freed : Memory
with_started_freed = after with_started (Void (ObjectHalf 0) 65536) Granted

-- a thread begins with the half that it was started with, or with Freed in place of it once its object is freed
abbrev pub ThreadsBeginWithTheirHalf : Type 0
ThreadsBeginWithTheirHalf =
    IsAllowed world with_started 1 (Begin 2 65536 (ObjectHalf 0)) Done
    × (¬ IsAllowed world with_started 1 (Begin 2 65536 Freed) Done)
    × (¬ IsAllowed world with_started 1 (Begin 2 65536 Nothing) Done)

abbrev pub ThreadsBeginWithFreed : Type 0
ThreadsBeginWithFreed =
    IsAllowed world with_started_freed 1 (Begin 2 65536 Freed) Done
    × MayNot with_one (Spawn 2 65536 (ObjectHalf 1)) (Number 1)
