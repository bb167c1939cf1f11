-- Integers in memory: what each access asks, in this order.
--
--     read                           Check, GetInt
--     store                          Check, SetInt
--     atomic read-modify-write       Check, RmwInt
--     atomic compare and exchange    Check, CasInt
--
-- A refused check is a trap at the access's line. An object's address is its base. A read gives a value of its type,
-- whatever the bytes are.
use Rattle.std.specs.Prelude.{ℕ, ◌-◌, ◌%◌, ◌^◌, ◌==◌, Bool, true, false}
use Rattle.filc_num.specs.Integers.{bytes_of, convert_of}
use Rattle.filc_num.specs.declared.integer.IntType.{IntType}
use Rattle.ideal_machine.specs.declared.value.Half.{Half}
use Rattle.ideal_machine.specs.declared.value.Half.TheVariants.{Object as ObjectHalf}
use Rattle.ideal_machine.specs.declared.value.Value.{Value}
use Rattle.ideal_machine.specs.declared.event.Access.{Access}
use Rattle.ideal_machine.specs.declared.event.Operation.{Operation}
use Rattle.ideal_machine.specs.declared.event.Event.TheVariants.{Check, GetInt, SetInt, RmwInt, CasInt}
use Rattle.ideal_machine.specs.Values.{integer}
use Rattle.ideal_machine.specs.Queries.{Makes}
use Rattle.ideal_machine.specs.Play.{Gives, Stops, Asks, Waits, bind}
use Rattle.ideal_machine.specs.Phrases.{Phrase, unless_refused}
use Rattle.ideal_machine.specs.Retries.{ask}

-- ---- checks

-- so many bytes at an address of the object of a half. A check is granted to no other half in any history
abbrev pub access_at : (base : ℕ → ℕ) → Half → (address width : ℕ) → Phrase Access
access_at base (ObjectHalf n) address width = Gives tt (record { object = n; offset = address - base n; width = width })
access_at base half address width = Stops Waits

-- the bytes that a pointer may access, or a trap
abbrev pub check_access : (base : ℕ → ℕ) → Value → (width : ℕ) → (write : Bool) → (line : ℕ) → Phrase Access
check_access base p width write line =
    Asks (Makes (Check p.half p.number width write)) (unless_refused line (access_at base p.half p.number width))

-- ---- reads and stores

abbrev pub load_int : (base : ℕ → ℕ) → IntType → Value → (line : ℕ) → Phrase Value
load_int base ty p line =
    bind (check_access base p (bytes_of ty) false line) (λ _ access.
    bind (ask (GetInt access)) (λ _ n. Gives tt (integer (convert_of n ty))))

abbrev pub store_int : (base : ℕ → ℕ) → IntType → Value → Value → (line : ℕ) → Phrase (Unit {0})
store_int base ty p v line =
    bind (check_access base p (bytes_of ty) true line) (λ _ access. ask (SetInt access v.number))

-- ---- atomic operations

-- makes the operation on what is there and v; gives the old value
abbrev pub update_int : (base : ℕ → ℕ) → IntType → Value → Operation → Value → (line : ℕ) → Phrase Value
update_int base ty p operation v line =
    bind (check_access base p (bytes_of ty) true line) (λ _ access.
    bind (ask (RmwInt access operation v.number)) (λ _ n. Gives tt (integer (convert_of n ty))))

-- puts the desired value where the expected one is; gives the bytes that were there, as an unsigned number
abbrev pub exchange_int : (base : ℕ → ℕ) → IntType → (p expected desired : Value) → (line : ℕ) → Phrase ℕ
exchange_int base ty p expected desired line =
    bind (check_access base p (bytes_of ty) true line) (λ _ access. ask (CasInt access expected.number desired.number))

-- the exchange was made: the bytes that were there are those of the expected value
abbrev pub is_exchanged : IntType → ℕ → Value → Bool
is_exchanged ty n expected = n == expected.number % 256 ^ bytes_of ty
