-- Locks, threads, functions that are called through pointers, and the input: what is asked for each.
--
--     __filc_lock     Check, once more for each further answer that is one of a check, and then Lock
--     __filc_spawn    Spawn; -1 where no slot is free
--     __filc_join     Join; 4294967296 where no slot is for the thread
--     __filc_in       Input; -1 at the end
--
-- A call through a pointer needs no event: it looks at the capability alone.
use Rattle.std.specs.Prelude.{ℕ, ◌-◌, ◌^◌, ◌==◌, List, slice_get, true, if◌then◌else◌, Option, Some, None}
use Rattle.filc_num.specs.declared.reason.Reason.TheVariants.{NotFunction, FunctionType}
use Rattle.ideal_machine.specs.declared.value.Half.{Half}
use Rattle.ideal_machine.specs.declared.value.Half.TheVariants.{Function as FunctionHalf}
use Rattle.ideal_machine.specs.declared.value.Value.{Value}
use Rattle.ideal_machine.specs.declared.event.Access.{Access}
use Rattle.ideal_machine.specs.declared.event.Event.TheVariants.{Input, Spawn, Join}
use Rattle.ideal_machine.specs.Values.{integer}
use Rattle.ideal_machine.specs.Queries.{Locks, LockReply, Taken, CheckedAgain}
use Rattle.ideal_machine.specs.Play.{Gives, Asks, bind}
use Rattle.ideal_machine.specs.Phrases.{Phrase, trap}
use Rattle.ideal_machine.specs.Retries.{ask, retry}
use Rattle.ideal_machine.specs.IntAccess.{check_access}

-- a number, or this one where there is none
abbrev pub number_or : ℕ → Option ℕ → Value
number_or none None = integer none
number_or none (Some n) = integer n

-- -1, as it is kept
abbrev pub minus_one : ℕ
minus_one = 2 ^ 64 - 1

-- ---- locks

-- a lock that is taken, or nothing where it was checked once more
abbrev pub lock_result : ℕ → LockReply → Phrase (Option (Unit {0}))
lock_result line Taken = Gives tt (Some tt)
lock_result line (CheckedAgain None) = Gives tt None
lock_result line (CheckedAgain (Some reason)) = trap reason line

abbrev pub lock_round : Value → Access → (line : ℕ) → Phrase (Option (Unit {0}))
lock_round p access line = Asks (Locks p.half p.number access.object access.offset) (lock_result line)

-- at most so many rounds
abbrev pub take_lock : (base : ℕ → ℕ) → (rounds : ℕ) → Value → (line : ℕ) → Phrase (Unit {0})
take_lock base rounds p line = bind (check_access base p 4 true line) (λ _ access. retry rounds (lock_round p access line))

-- ---- functions through pointers

-- the function, where its type is the wanted one; types are numbers, and `kinds` has that of each function
abbrev pub if_kind : (wanted function line : ℕ) → Option ℕ → Phrase ℕ
if_kind wanted function line None = trap FunctionType line
if_kind wanted function line (Some kind) = if kind == wanted then Gives tt function else trap FunctionType line

abbrev pub function_of_half : (kinds : List ℕ) → (wanted line : ℕ) → Half → Phrase ℕ
function_of_half kinds wanted line (FunctionHalf f) = if_kind wanted f line (slice_get kinds f)
function_of_half kinds wanted line half = trap NotFunction line

-- the function that a pointer names
abbrev pub function_named : (kinds : List ℕ) → (wanted : ℕ) → Value → (line : ℕ) → Phrase ℕ
function_named kinds wanted p line = function_of_half kinds wanted line p.half

-- ---- threads

-- the number of the type `int(void*)`, that of a thread's first function
abbrev pub thread_kind : ℕ
thread_kind = 0

abbrev pub start_thread : (kinds : List ℕ) → (function argument : Value) → (line : ℕ) → Phrase Value
start_thread kinds function argument line =
    bind (function_named kinds thread_kind function line) (λ _ f.
    bind (ask (Spawn f argument.number argument.half)) (λ _ id. Gives tt (number_or minus_one id)))

abbrev pub join_thread : Value → Phrase Value
join_thread id = bind (ask (Join id.number)) (λ _ result. Gives tt (number_or 4294967296 result))

-- ---- input

abbrev pub take_in : Phrase Value
take_in = bind (ask Input) (λ _ byte. Gives tt (number_or minus_one byte))
