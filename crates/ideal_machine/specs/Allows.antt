-- The transitions of the abstract machine: when an event may get an answer. `Effects` says what changes then.
--
--     Check         the first reason of `check_refusal`, else granted; want of a cell to any write of 8 bytes
--     GetInt        the bytes of the access
--     SetInt        done
--     RmwInt        the old bytes
--     CasInt        the old bytes
--     GetHalf       the word's half, shown; of a pair its number
--     Open          the address and the half, shown, of the pair of this number
--     SetHalf       done
--     CasHalf       the word's half, shown; of a pair its number
--     New           the next object, at an address that is a multiple of 8 and at least 65,536; or none
--     Void          the first reason of `void_refusal`, else granted
--     Size          the same reason, else the bytes
--     Name          done
--     Lock          done, where the 4 bytes are 0
--     Out           done where the output has room, else OutputLimit
--     Input         the next byte, or the end exactly where none is left
--     Spawn         the id of a free slot, or none
--     Begin         done, where the actor's slot is started with this function, address and half, shown
--     End           done
--     Join          the result of the thread with this id, where it is ended; none exactly where no slot is for that thread
--     Collected     done, by the collector, where the cycle is the next one
--     Exit, Trap    done, where the program hasn't ended
--
-- Every event but Begin and Collected needs that its actor's thread is running, and each one names only objects that are
-- there. An access lies inside its object and is aligned.
use Rattle.std.specs.Prelude.{◌≡◌, ◌⊎◌, ℕ, ◌+◌, ◌/◌, ◌%◌, ◌<◌, ◌≤◌, length, true, IsTrue, IsSomeAnd, Option, Some, None, option_map, slice_get}
use Rattle.filc_num.specs.Integers.{bytes_of, is_promoted}
use Rattle.filc_num.specs.WordBytes.{IsWidth}
use Rattle.filc_num.specs.declared.reason.Reason.{Reason}
use Rattle.filc_num.specs.declared.reason.Reason.TheVariants.{OutputLimit, NoCell}
use Rattle.ideal_machine.specs.declared.value.Half.{Half}
use Rattle.ideal_machine.specs.declared.event.Access.{Access}
use Rattle.ideal_machine.specs.declared.event.Operation.{Operation}
use Rattle.ideal_machine.specs.declared.event.Operation.TheVariants.{Set, Compute}
use Rattle.ideal_machine.specs.declared.event.Event.{Event}
use Rattle.ideal_machine.specs.declared.event.Event.TheVariants.{Check, GetInt, SetInt, RmwInt, CasInt, GetHalf, Open, SetHalf, CasHalf, New, Void, Size, Name, Lock, Out, Input, Spawn, Begin, End, Join, Collected, Exit, Trap}
use Rattle.ideal_machine.specs.declared.event.Answer.{Answer}
use Rattle.ideal_machine.specs.declared.event.Answer.TheVariants.{Granted, Refused, Done, Number, Found as FoundAnswer, Opened, Made, Absent, End as InputEnd}
use Rattle.ideal_machine.specs.Memory.{Slot, SlotState, Free, Started, Running, Ended, Memory, World, object_at, id_of}
use Rattle.ideal_machine.specs.Words.{is_within, integer_at, lock_access, half_at}
use Rattle.ideal_machine.specs.Refusals.{check_refusal, void_refusal, bytes_behind}
use Rattle.ideal_machine.specs.Names.{NamesObjects, IsShown, IsFoundAs}

-- ---- accesses

-- an access of a width that there is lies inside its object and is aligned
pub record IsAccess (memory : Memory) (access : Access) : Type 0 where
  pub width : IsWidth access.width
  pub inside : IsTrue (is_within (object_at memory access.object).bytes access.offset access.width)
  pub aligned : access.offset % access.width ≡ 0

-- the object has this word
abbrev pub HasWord : Memory → (object word : ℕ) → Type 0
HasWord memory object word = word < length (object_at memory object).words

-- an operation on integers of so many bytes: the first type is the object's, the second that of a promoted operand
abbrev pub IsOperationOn : ℕ → Operation → Type 0
IsOperationOn width Set = Unit {0}
IsOperationOn width (Compute op of_object computed_in) =
    (bytes_of of_object ≡ width) × IsTrue (is_promoted computed_in)

-- the answer to what may be refused: the reason, or this answer where there is none
abbrev pub refusal_or : Answer → Option Reason → Answer
refusal_or otherwise None = otherwise
refusal_or otherwise (Some reason) = Refused reason

-- the pair of this number has this address, and this half, shown
abbrev pub IsOpened : Memory → (pair address : ℕ) → Half → Type 0
IsOpened memory pair address shown =
    IsSomeAnd (slice_get memory.pairs pair) (λ p. (address ≡ p.address) × IsShown memory p.half shown)

-- the next object may lie at this address
pub record IsNewObject (memory : Memory) (object address : ℕ) : Type 0 where
  pub next : object ≡ length memory.objects
  pub aligned : address % 8 ≡ 0
  pub least : 65536 ≤ address

-- ---- threads

-- where an actor's thread is
abbrev pub state_of : Memory → ℕ → Option SlotState
state_of memory actor = option_map (λ (s : Slot). s.state) (slice_get memory.slots actor)

-- the actor's thread is running
abbrev pub IsRunning : Memory → ℕ → Type 0
IsRunning memory actor = state_of memory actor ≡ Some Running

-- the actor's thread is started, with this function, address and half, shown
abbrev pub IsStarted : Memory → ℕ → ℕ → ℕ → Half → Type 0
IsStarted memory actor function address shown =
    (half : Half) × (state_of memory actor ≡ Some (Started function address half)) × IsShown memory half shown

-- the id is that of a free slot, for the thread that it has next
abbrev pub IsFreeId : Memory → ℕ → Type 0
IsFreeId memory id =
    IsSomeAnd (slice_get memory.slots (id % 64)) (λ slot. (slot.state ≡ Free) × (id ≡ id_of (id % 64) slot.generation))

-- a slot is for the thread with this id
abbrev pub HasThread : Memory → ℕ → Type 0
HasThread memory id = IsSomeAnd (slice_get memory.slots (id % 64)) (λ slot. slot.generation ≡ id / 64)

-- the thread with this id is ended with this result
abbrev pub HasResult : Memory → ℕ → ℕ → Type 0
HasResult memory id result =
    slice_get memory.slots (id % 64) ≡ Some (record { generation = id / 64; state = Ended result })

-- ---- what is allowed

-- the actor may make this event: its thread is running, or is started and begins; a cycle is the collector's to end
abbrev pub MayMake : World → Memory → ℕ → Event → Type 0
MayMake world memory actor (Begin function address half) = IsStarted memory actor function address half
MayMake world memory actor (Collected cycle) = actor ≡ world.slots
MayMake world memory actor event = IsRunning memory actor

-- the answer is one to this event
abbrev pub IsAnswer : World → Memory → Event → Answer → Type 0
IsAnswer world memory (Check half address width write) answer =
    IsWidth width
    × ((answer ≡ refusal_or Granted (check_refusal memory half address width write))
    ⊎ ((answer ≡ Refused NoCell) × (write ≡ true) × (width ≡ 8)))
IsAnswer world memory (GetInt access) answer =
    IsAccess memory access × (answer ≡ Number (integer_at memory access))
IsAnswer world memory (SetInt access value) answer = IsAccess memory access × (answer ≡ Done)
IsAnswer world memory (RmwInt access operation value) answer =
    IsAccess memory access × IsOperationOn access.width operation × (answer ≡ Number (integer_at memory access))
IsAnswer world memory (CasInt access expected desired) answer =
    IsAccess memory access × (answer ≡ Number (integer_at memory access))
IsAnswer world memory (GetHalf object word) (FoundAnswer found) =
    HasWord memory object word × IsFoundAs memory (half_at memory object word) found
IsAnswer world memory (Open pair) (Opened address half) = IsOpened memory pair address half
IsAnswer world memory (SetHalf object word half) answer = HasWord memory object word × (answer ≡ Done)
IsAnswer world memory (CasHalf object word seen new) (FoundAnswer found) =
    HasWord memory object word × IsFoundAs memory (half_at memory object word) found
IsAnswer world memory (New bytes kind) (Made object address) = IsNewObject memory object address
IsAnswer world memory (New bytes kind) Absent = Unit {0}
IsAnswer world memory (Void half address) answer = answer ≡ refusal_or Granted (void_refusal memory half address)
IsAnswer world memory (Size half address) answer =
    answer ≡ refusal_or (Number (bytes_behind memory half)) (void_refusal memory half address)
IsAnswer world memory (Name half address) answer = answer ≡ Done
IsAnswer world memory (Lock object offset) answer =
    let access = lock_access object offset in
    IsAccess memory access × (integer_at memory access ≡ 0) × (answer ≡ Done)
IsAnswer world memory (Out byte) Done = length memory.output < world.output
IsAnswer world memory (Out byte) (Refused OutputLimit) = world.output ≤ length memory.output
IsAnswer world memory Input (Number byte) = slice_get world.input memory.input_taken ≡ Some byte
IsAnswer world memory Input InputEnd = length world.input ≤ memory.input_taken
IsAnswer world memory (Spawn function address half) (Number id) = IsFreeId memory id
IsAnswer world memory (Spawn function address half) Absent = Unit {0}
IsAnswer world memory (Begin function address half) answer = answer ≡ Done
IsAnswer world memory (End result) answer = answer ≡ Done
IsAnswer world memory (Join id) (Number result) = HasResult memory id result
IsAnswer world memory (Join id) Absent = ¬ HasThread memory id
IsAnswer world memory (Collected cycle) answer = (cycle ≡ memory.cycles + 1) × (answer ≡ Done)
IsAnswer world memory (Exit status) answer = (memory.finish ≡ None) × (answer ≡ Done)
IsAnswer world memory (Trap reason line) answer = (memory.finish ≡ None) × (answer ≡ Done)
-- no other answer is
IsAnswer world memory event answer = ⊥

-- the actor may make this event and get this answer
pub record IsAllowed (world : World) (memory : Memory) (actor : ℕ) (event : Event) (answer : Answer) : Type 0 where
  pub may_make : MayMake world memory actor event
  pub objects : NamesObjects memory event
  pub answers : IsAnswer world memory event answer
