-- Pointers that move, and what is known of a pointer by looking at it.
--
--     p + i, p - i, &p->m       the address moves modulo 2 ^ 64, and the capability stays; no event
--     p - q, p < q, (long)p     Name of each pointer, from left to right
--
-- A pointer is a value: its number is the address, and its half the capability.
use Rattle.std.specs.Prelude.{ℕ, ◌+◌, ◌-◌, ◌%◌, ◌^◌, pos, int_div}
use Rattle.filc_num.specs.Integers.{value_of, convert_of, wrap}
use Rattle.filc_num.specs.declared.integer.IntType.{IntType}
use Rattle.filc_num.specs.declared.integer.IntType.TheVariants.{I64, U64}
use Rattle.filc_num.specs.declared.integer.BinOp.{BinOp}
use Rattle.ideal_machine.specs.declared.value.Value.{Value}
use Rattle.ideal_machine.specs.declared.value.Half.TheVariants.{Object as ObjectHalf, Function as FunctionHalf}
use Rattle.ideal_machine.specs.declared.event.Event.TheVariants.{Name}
use Rattle.ideal_machine.specs.Beginning.{function_address, address_sum}
use Rattle.ideal_machine.specs.Values.{integer}
use Rattle.ideal_machine.specs.Play.{Gives, bind}
use Rattle.ideal_machine.specs.Phrases.{Phrase, arithmetic}
use Rattle.ideal_machine.specs.Retries.{ask}

-- ---- pointers to what a program has

-- to the first byte of an object, which lies at its base
abbrev pub object_pointer : (base : ℕ → ℕ) → ℕ → Value
object_pointer base n = record { number = base n; half = ObjectHalf n }

-- to a function
abbrev pub function_pointer : ℕ → Value
function_pointer f = record { number = function_address f; half = FunctionHalf f }

-- the bits of an integer without a capability
abbrev pub pointer_of_int : Value → Value
pointer_of_int v = integer v.number

-- ---- pointers that move

-- so many bytes on
abbrev pub advance : Value → ℕ → Value
advance p bytes = record p { number = address_sum p.number bytes }

-- so many bytes back
abbrev pub retreat : Value → ℕ → Value
retreat p bytes = record p { number = (p.number + (2 ^ 64 - bytes % 2 ^ 64)) % 2 ^ 64 }

-- ---- looking at pointers

abbrev pub look_at : Value → Phrase (Unit {0})
look_at p = ask (Name p.half p.number)

-- the elements between two addresses: their difference, as signed, by an element's bytes, truncated
abbrev pub elements_between : (bytes p q : ℕ) → ℕ
elements_between bytes p q = wrap I64 (int_div (value_of I64 ((p + (2 ^ 64 - q)) % 2 ^ 64)) (pos bytes))

-- p - q
abbrev pub distance : ℕ → Value → Value → Phrase Value
distance bytes p q =
    bind (look_at p) (λ _ _. bind (look_at q) (λ _ _. Gives tt (integer (elements_between bytes p.number q.number))))

-- a comparison of two addresses, as unsigned
abbrev pub compare : BinOp → Value → Value → ℕ → Phrase Value
compare operator p q line = bind (look_at p) (λ _ _. bind (look_at q) (λ _ _. arithmetic operator U64 p q line))

-- the address as an integer, or in `_Bool` whether it isn't 0
abbrev pub int_of_pointer : IntType → Value → Phrase Value
int_of_pointer ty p = bind (look_at p) (λ _ _. Gives tt (integer (convert_of p.number ty)))
