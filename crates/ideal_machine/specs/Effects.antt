-- What an event changes, by its answer. All else stays: an answer that isn't named here changes nothing.
use Rattle.std.specs.Prelude.{ℕ, ◌+◌, ◌%◌, ◌^◌, [], ◌∷◌, ◌++◌, true, false, ◌==◌, if◌then◌else◌, Some, replicate}
use Rattle.filc_num.specs.Statics.{payload_words_of}
use Rattle.ideal_machine.specs.declared.value.Half.{Half}
use Rattle.ideal_machine.specs.declared.value.Half.TheVariants.{Object as ObjectHalf}
use Rattle.ideal_machine.specs.declared.finish.Finish.{Finish}
use Rattle.ideal_machine.specs.declared.finish.Finish.TheVariants.{Exited, Trapped}
use Rattle.ideal_machine.specs.declared.event.Event.{Event}
use Rattle.ideal_machine.specs.declared.event.Event.TheVariants.{SetInt, RmwInt, CasInt, SetHalf, CasHalf, New, Void, Lock, Out, Input, Spawn, Begin, End, Join, Collected, Exit, Trap}
use Rattle.ideal_machine.specs.declared.event.Answer.{Answer}
use Rattle.ideal_machine.specs.declared.event.Answer.TheVariants.{Granted, Done, Number, Found as FoundAnswer, Made}
use Rattle.ideal_machine.specs.Memory.{Object, Slot, SlotState, Free, Started, Running, Ended, Memory, zero_word}
use Rattle.ideal_machine.specs.Words.{with_element, with_object, with_integer, operation_result, with_result, lock_access, with_half, is_seen}
use Rattle.ideal_machine.specs.Names.{with_new_object}

-- ---- objects

-- an object as it is made: all zero
abbrev pub new_object : (bytes kind address : ℕ) → Object
new_object bytes kind address = record {
  address = address;
  bytes = bytes;
  kind = kind;
  freed = false;
  covered = false;
  words = replicate (payload_words_of bytes) zero_word;
}

-- the memory once the object of a half is freed
abbrev pub with_freed : Memory → Half → Memory
with_freed memory (ObjectHalf n) = with_object memory n (λ o. record o { freed = true })
with_freed memory half = memory

-- ---- threads

-- the memory with one slot changed
abbrev pub with_slot : Memory → ℕ → (Slot → Slot) → Memory
with_slot memory n change = record memory { slots = with_element memory.slots n change }

-- a slot with its thread in this state
abbrev pub at_state : SlotState → Slot → Slot
at_state state slot = record slot { state = state }

-- a slot that is free for the next thread
abbrev pub next_generation : Slot → Slot
next_generation slot = record { generation = slot.generation + 1; state = Free }

-- ---- the outside

-- the memory with one byte more put out
abbrev pub with_byte : Memory → ℕ → Memory
with_byte memory byte = record memory { output = memory.output ++ byte ∷ [] }

-- the memory of a program that has ended
abbrev pub with_finish : Memory → Finish → Memory
with_finish memory finish = record memory { finish = Some finish }

-- ---- what changes

-- what an actor's event with this answer leaves
abbrev pub effect_of : Memory → ℕ → Event → Answer → Memory
effect_of memory actor (SetInt access value) Done = with_integer memory access value
effect_of memory actor (RmwInt access operation value) (Number old) =
    with_result memory access (operation_result operation old value)
effect_of memory actor (CasInt access expected desired) (Number old) =
    if old == expected % 256 ^ access.width then with_integer memory access desired else memory
effect_of memory actor (SetHalf object word half) Done = with_half memory object word half
effect_of memory actor (CasHalf object word seen new) (FoundAnswer found) =
    if is_seen seen found then with_half memory object word new else memory
effect_of memory actor (New bytes kind) (Made object address) =
    with_new_object memory (new_object bytes kind address)
effect_of memory actor (Void half address) Granted = with_freed memory half
effect_of memory actor (Lock object offset) Done = with_integer memory (lock_access object offset) 1
effect_of memory actor (Out byte) Done = with_byte memory byte
effect_of memory actor Input (Number byte) = record memory { input_taken = memory.input_taken + 1 }
effect_of memory actor (Spawn function address half) (Number id) =
    with_slot memory (id % 64) (at_state (Started function address half))
effect_of memory actor (Begin function address half) Done = with_slot memory actor (at_state Running)
effect_of memory actor (End result) Done = with_slot memory actor (at_state (Ended result))
effect_of memory actor (Join id) (Number result) = with_slot memory (id % 64) next_generation
effect_of memory actor (Collected cycle) Done = record memory { cycles = cycle }
effect_of memory actor (Exit status) Done = with_finish memory (Exited status)
effect_of memory actor (Trap reason line) Done = with_finish memory (Trapped reason line)
effect_of memory actor event answer = memory
