-- What a call gives, in one word: the answer of a definition, unless memory ran out.
--
-- A call may run out of memory at any time, which says nothing of its input; so each clause on what it
-- gives leaves that one fault free, and no other.
use Rattle.std.specs.Prelude.{◌≡◌, ◌≢◌, Result, Ok, Err}

-- The value is the defined one, seen by `view`, and a fault is the defined one. `no_memory` is the fault
-- that stands for want of memory.
abbrev pub Gives : {T V F : Type 0} → F → Result V F → (T → V) → Result T F → Type 0
Gives no_memory defined view (Ok value) = defined ≡ Ok (view value)
Gives no_memory defined view (Err fault) = fault ≢ no_memory → defined ≡ Err fault

-- what is known to be there is given, unless memory ran out
abbrev pub GivesJust : {T F : Type 0} → F → T → Result T F → Type 0
GivesJust no_memory known (Ok value) = value ≡ known
GivesJust no_memory known (Err fault) = fault ≡ no_memory
