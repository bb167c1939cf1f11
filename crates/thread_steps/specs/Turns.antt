-- One turn of a thread: it carries out its instruction where it wants to, and else it stays.
use Rattle.std.specs.Prelude.{◌≡◌, ℕ, zero, suc, ◌+◌, ◌==◌, Bool, true, false, List, Option, Some, None, length, slice_index, if◌then◌else◌}
use Rattle.whole_code.specs.declared.op.Op.{Op}
use Rattle.whole_code.specs.declared.op.Op.TheVariants as op
use Rattle.whole_code.specs.declared.op.Instruction.{Instruction}
use Rattle.whole_code.specs.Plain.{PlainCode}
use Rattle.whole_thread.specs.declared.stage.Want.{Want}
use Rattle.whole_thread.specs.declared.stage.Want.TheVariants as want
use Rattle.whole_thread.specs.declared.stage.Stage.{Stage}
use Rattle.whole_thread.specs.declared.stage.Stage.TheVariants as stage
use Rattle.whole_thread.specs.Standing.{trap_line, register, registers_from}
use Rattle.whole_thread.specs.Thread.{Thread, want_of, calls, calls_half, step_by, thread_after_step}
use Rattle.thread_steps.specs.Usable.{Room}

-- an instruction is to be carried out on registers
abbrev pub is_instruction : Want → Bool
is_instruction want.Instruction = true
is_instruction w = false

-- a thread stands before its instruction, and in no further round of it
abbrev pub is_before : Stage → Bool
is_before stage.Before = true
is_before s = false

-- a thread after a call, by the function's number or by a pointer
abbrev pub calls_by : PlainCode → Thread → (line : ℕ) → Op → Thread
calls_by code thread line (op.Call d f first count) = calls code thread line d f (registers_from thread.at first count)
calls_by code thread line (op.CallPointer d a first count kind) =
    calls_half code thread line d kind (registers_from thread.at first count) (register thread.at a).half
calls_by code thread line o = thread

-- the place of each static object
abbrev pub place_in : List ℕ → ℕ → ℕ
place_in places n = slice_index places n

-- a thread after its instruction, if it is carried out
abbrev pub turn_by : Bool → PlainCode → (places : List ℕ) → Thread → Instruction → Op → Thread
turn_by done code places thread i o = if done then step_by code (place_in places) thread (trap_line thread.at.frame i) o else thread

abbrev pub thread_after_turn : Bool → PlainCode → (places : List ℕ) → Thread → Thread
thread_after_turn done code places thread = if done then thread_after_step code (place_in places) thread else thread

-- ---- many turns

-- a thread after so many instructions on registers
abbrev pub thread_after_turns : (count : ℕ) → PlainCode → (places : List ℕ) → Thread → Thread
thread_after_turns zero code places thread = thread
thread_after_turns (suc count) code places thread = thread_after_turns count code places (thread_after_turn true code places thread)

-- how many of the next instructions are on registers, at most so many: a thread carries them out until it wants something else
abbrev pub turns_within : (most : ℕ) → PlainCode → (places : List ℕ) → Thread → ℕ
turns_within zero code places thread = 0
turns_within (suc most) code places thread =
    if is_instruction (want_of code thread) then turns_within most code places (thread_after_turn true code places thread) + 1 else 0

-- so many turns lead from a thread to another: what follows them is what follows the thread then
pub record Leads (code : PlainCode) (places : List ℕ) (count : ℕ) (old new : Thread) : Type 0 where
  pub after : (more : ℕ) → thread_after_turns (count + more) code places old ≡ thread_after_turns more code places new
  pub within : (more : ℕ) → turns_within (count + more) code places old ≡ count + turns_within more code places new

-- ---- what an instruction meets

-- what an instruction of a thread may use
abbrev pub room_of : PlainCode → Thread → Room
room_of code thread =
    record { registers = length thread.at.frame.registers; functions = length code.functions; statics = length code.statics }

-- a function's type, if there is such a function, is this one
abbrev pub is_of_kind : (kind : ℕ) → Option ℕ → Bool
is_of_kind kind None = false
is_of_kind kind (Some k) = k == kind
