-- Worked examples of the transitions, in the first memory of a program whose `main` has number 0, and of replies.
use Rattle.std.specs.Prelude.{◌≡◌, ℕ, Bool, [], ◌∷◌, true, false, Some, None, slice_get}
use Rattle.filc_num.specs.declared.reason.Reason.TheVariants.{OutputLimit, Divide, NoCell}
use Rattle.ideal_machine.specs.declared.value.Half.{Half}
use Rattle.ideal_machine.specs.declared.value.Half.TheVariants.{Nothing, Freed, Object as ObjectHalf}
use Rattle.ideal_machine.specs.declared.finish.Finish.TheVariants.{Exited}
use Rattle.ideal_machine.specs.declared.event.Event.TheVariants.{Check, Void, Size, Lock, Name, Out, Input, Spawn, Begin, End, Join, Exit, Trap}
use Rattle.ideal_machine.specs.declared.event.Answer.TheVariants.{Granted, Refused, Done, Number, Absent, End as InputEnd}
use Rattle.ideal_machine.specs.Memory.{Memory, World, Started, default_world, thread_id}
use Rattle.ideal_machine.specs.Beginning.{first_memory}
use Rattle.ideal_machine.specs.Allows.{IsAllowed}
use Rattle.ideal_machine.specs.Effects.{effect_of, with_finish}
use Rattle.ideal_machine.specs.Names.{KeepsApart, IsShownAs}
use Rattle.ideal_machine.specs.Queries.{Makes, ChecksForCell, Locks, reply_to, event_of, Taken, CheckedAgain}

-- a run whose input is the letter A
abbrev pub world : World
world = default_world (65 ∷ [])

-- before anything has happened
abbrev pub at_first : Memory
at_first = first_memory world [] 0

-- after the Begin of `main`
abbrev pub at_begin : Memory
at_begin = effect_of at_first 0 (Begin 0 0 Nothing) Done

-- ---- `main`

-- `main` may begin, in slot 0 alone and once: its slot is running then
abbrev pub MainBegins : Type 0
MainBegins = IsAllowed world at_first 0 (Begin 0 0 Nothing) Done

abbrev pub OnlyMainBegins : Type 0
OnlyMainBegins = ¬ IsAllowed world at_first 1 (Begin 0 0 Nothing) Done

abbrev pub MainBeginsOnce : Type 0
MainBeginsOnce = ¬ IsAllowed world at_begin 0 (Begin 0 0 Nothing) Done

-- a program ends once
abbrev pub EndsOnce : Type 0
EndsOnce =
    (¬ IsAllowed world (with_finish at_begin (Exited 3)) 0 (Trap Divide 1) Done)
    × (¬ IsAllowed world (with_finish at_begin (Exited 3)) 0 (Exit 3) Done)

-- ---- bytes

-- no byte is put out by a thread that hasn't begun
abbrev pub NoOutBeforeBegin : Type 0
NoOutBeforeBegin = ¬ IsAllowed world at_first 0 (Out 65) Done

-- then its byte is put out
abbrev pub OutAfterBegin : Type 0
OutAfterBegin = IsAllowed world at_begin 0 (Out 65) Done × ((effect_of at_begin 0 (Out 65) Done).output ≡ 65 ∷ [])

-- it isn't refused while the output has room
abbrev pub NoRefusalWithRoom : Type 0
NoRefusalWithRoom = ¬ IsAllowed world at_begin 0 (Out 65) (Refused OutputLimit)

-- where the output has no room it is refused, and nothing changes; no byte goes past the limit
abbrev pub no_room : World
no_room = record world { output = 0 }

abbrev pub RefusalWithoutRoom : Type 0
RefusalWithoutRoom =
    IsAllowed no_room at_begin 0 (Out 65) (Refused OutputLimit)
    × (effect_of at_begin 0 (Out 65) (Refused OutputLimit) ≡ at_begin)

abbrev pub NoByteWithoutRoom : Type 0
NoByteWithoutRoom = ¬ IsAllowed no_room at_begin 0 (Out 65) Done

-- the input's one byte is taken in once, and then the input is at its end
abbrev pub after_input : Memory
after_input = effect_of at_begin 0 Input (Number 65)

abbrev pub InputComesOnce : Type 0
InputComesOnce =
    IsAllowed world at_begin 0 Input (Number 65) × (¬ IsAllowed world at_begin 0 Input (Number 66)) × (¬ IsAllowed world at_begin 0 Input InputEnd)
    × IsAllowed world after_input 0 Input InputEnd × (¬ IsAllowed world after_input 0 Input (Number 65))

-- ---- threads

-- a thread may be spawned in slot 1, and its id is 1; no id of a slot that isn't free is given, nor one of another generation
abbrev pub after_spawn : Memory
after_spawn = effect_of at_begin 0 (Spawn 2 8 Nothing) (Number 1)

abbrev pub SpawnGivesAFreeSlot : Type 0
SpawnGivesAFreeSlot =
    IsAllowed world at_begin 0 (Spawn 2 8 Nothing) (Number 1)
    × (slice_get after_spawn.slots 1 ≡ Some (record { generation = 0; state = Started 2 8 Nothing })) × (thread_id after_spawn 1 ≡ 1)

abbrev pub NoIdOfAnotherSlot : Type 0
NoIdOfAnotherSlot =
    (¬ IsAllowed world at_begin 0 (Spawn 2 8 Nothing) (Number 0)) × (¬ IsAllowed world at_begin 0 (Spawn 2 8 Nothing) (Number 8))
    × (¬ IsAllowed world at_begin 0 (Spawn 2 8 Nothing) (Number 65)) × (¬ IsAllowed world after_spawn 0 (Spawn 2 8 Nothing) (Number 1))

-- it begins with what it was spawned with, and not again while it is running
abbrev pub after_second_begin : Memory
after_second_begin = effect_of after_spawn 1 (Begin 2 8 Nothing) Done

abbrev pub SpawnedThreadBegins : Type 0
SpawnedThreadBegins =
    IsAllowed world after_spawn 1 (Begin 2 8 Nothing) Done × (¬ IsAllowed world after_spawn 1 (Begin 3 8 Nothing) Done)
    × (¬ IsAllowed world after_second_begin 1 (Begin 2 8 Nothing) Done)

-- its result is taken once, when it has ended; the next thread of its slot has the id 65
abbrev pub after_end : Memory
after_end = effect_of after_second_begin 1 (End 5) Done

abbrev pub after_join : Memory
after_join = effect_of after_end 0 (Join 1) (Number 5)

abbrev pub ResultIsTakenOnce : Type 0
ResultIsTakenOnce =
    (¬ IsAllowed world after_second_begin 0 (Join 1) (Number 5)) × (¬ IsAllowed world after_second_begin 0 (Join 1) Absent)
    × IsAllowed world after_end 0 (Join 1) (Number 5) × (¬ IsAllowed world after_end 0 (Join 1) (Number 6))
    × IsAllowed world after_join 0 (Join 1) Absent × (thread_id after_join 1 ≡ 65) × IsAllowed world after_join 0 (Spawn 2 8 Nothing) (Number 65)

-- a running thread may end, and then it makes no event more
abbrev pub ThreadsEndOnce : Type 0
ThreadsEndOnce =
    IsAllowed world after_second_begin 1 (End 5) Done × (¬ IsAllowed world after_spawn 1 (End 5) Done)
    × (¬ IsAllowed world after_end 1 (End 5) Done) × (¬ IsAllowed world after_end 1 (Out 65) Done)

-- a running thread may end the program, by itself or by a trap; another thread may go on then
abbrev pub after_exit : Memory
after_exit = effect_of after_second_begin 1 (Exit 3) Done

abbrev pub ProgramsEnd : Type 0
ProgramsEnd =
    IsAllowed world at_begin 0 (Exit 3) Done × IsAllowed world at_begin 0 (Trap Divide 1) Done
    × (¬ IsAllowed world at_first 0 (Exit 3) Done) × (after_exit.finish ≡ Some (Exited 3))
    × IsAllowed world after_exit 0 (Out 65) Done × (¬ IsAllowed world after_exit 0 (Exit 0) Done)

-- ---- replies

-- want of a cell is a reply to the check of a pointer's store, and to no other check
abbrev pub CellIsWantedByPointers : Type 0
CellIsWantedByPointers =
    (half : Half) (address : ℕ) →
    (reply_to (ChecksForCell half address) (Refused NoCell) ≡ Some (Some NoCell))
    × (reply_to (Makes (Check half address 8 true)) (Refused NoCell) ≡ None)
    × (reply_to (Makes (Void half address)) (Refused NoCell) ≡ None)
    × (reply_to (Makes (Size half address)) (Refused NoCell) ≡ None)

-- a lock that is answered as a check was checked once more; it is made where it is done
abbrev pub LocksAreCheckedAgain : Type 0
LocksAreCheckedAgain =
    (half : Half) (address object offset : ℕ) →
    (reply_to (Locks half address object offset) Granted ≡ Some (CheckedAgain None))
    × (event_of (Locks half address object offset) (CheckedAgain None) ≡ Check half address 4 true)
    × (reply_to (Locks half address object offset) Done ≡ Some Taken)
    × (event_of (Locks half address object offset) Taken ≡ Lock object offset)

-- ---- names

-- the memory with one object of 8 bytes, which was freed or wasn't, and is covered or isn't
abbrev pub memory_with_object : (freed covered : Bool) → Memory
memory_with_object freed covered = record at_begin {
  objects = record { address = 65536; bytes = 8; kind = 0; freed = freed; covered = covered; words = [] } ∷ [];
}

-- Freed stands for the half of an object that was freed, and of no other
abbrev pub FreedIsShown : Type 0
FreedIsShown =
    IsShownAs (memory_with_object true false) (Name (ObjectHalf 0) 65536) (Name Freed 65536)
    × (¬ IsShownAs (memory_with_object false false) (Name (ObjectHalf 0) 65536) (Name Freed 65536))

-- no event names a covered object
abbrev pub CoveredIsNotNamed : Type 0
CoveredIsNotNamed =
    KeepsApart (memory_with_object true false) (Check (ObjectHalf 0) 65536 1 false) Granted
    × (¬ KeepsApart (memory_with_object true true) (Check (ObjectHalf 0) 65536 1 false) Granted)
