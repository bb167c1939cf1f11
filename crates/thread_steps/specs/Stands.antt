-- A thread of well-formed code always stands at an instruction.
use Rattle.std.specs.Prelude.{◌≡◌, ◌⊎◌, ℕ, ◌<◌, ◌≤◌, ◌^◌, length, All, Bool, true, false, Some, slice_get}
use Rattle.whole_code.specs.declared.op.Instruction.{Instruction}
use Rattle.whole_code.specs.Plain.{PlainFunction, PlainCode}
use Rattle.whole_code.specs.WellFormed.{LeavesPlace, IsWellFormed}
use Rattle.ideal_machine.specs.declared.event.Access.{Access}
use Rattle.ideal_machine.specs.declared.event.Answer.{Answer}
use Rattle.ideal_machine.specs.declared.value.Value.{Value}
use Rattle.whole_thread.specs.declared.stage.Stage.{Stage}
use Rattle.whole_thread.specs.declared.stage.Stage.TheVariants as stage
use Rattle.whole_thread.specs.declared.stage.Want.TheVariants as want
use Rattle.whole_thread.specs.Standing.{Frame, Caller, further_activations}
use Rattle.whole_thread.specs.Thread.{Thread, here, want_of, thread_after_begin, thread_after_step, thread_after_poll}
use Rattle.whole_thread.specs.Answers.{thread_after_answer}
use Rattle.thread_steps.specs.Registers.{register_count, thread_with_freed}

-- an activation of a function of the code: it has as many registers as its function has values, and stands at an
-- instruction
pub record IsFrameOf (code : PlainCode) (frame : Frame) : Type 0 where
  pub running : PlainFunction
  pub there : slice_get code.functions frame.function ≡ Some running
  pub inside : frame.index < length running.instructions
  pub registers : length frame.registers ≡ running.values

-- the register to which a caller's result goes is there
abbrev pub HasResult : Caller → Type 0
HasResult caller = caller.result < length caller.frame.registers

-- one that waits has the register to which its result goes
pub record IsCallerOf (code : PlainCode) (caller : Caller) : Type 0 where
  pub frame : IsFrameOf code caller.frame
  pub result : HasResult caller

-- a thread of this code stands at an instruction, and so does each activation that waits
pub record StandsIn (code : PlainCode) (thread : Thread) : Type 0 where
  pub frame : IsFrameOf code thread.at.frame
  pub callers : All (IsCallerOf code) thread.at.callers
  pub depth : length thread.at.callers ≤ further_activations
  -- where a pointer's integer is stored, control goes on to the next instruction
  pub stored : (i : Instruction) (access : Access) → here code thread ≡ Some i → thread.stage ≡ stage.Stored access → ¬ LeavesPlace i.op

-- it has ended, so no code has more for it to do
abbrev pub is_over : Stage → Bool
is_over (stage.Over halt) = true
is_over s = false

-- a thread of this code stands at an instruction of it, or has ended; a thread that has ended is one of any code
abbrev pub IsThreadOf : PlainCode → Thread → Type 0
IsThreadOf code thread = StandsIn code thread ⊎ (is_over thread.stage ≡ true)

-- a thread of well-formed code begins at an instruction, and stays at one by each step, answer and poll
abbrev pub BeginStands : Type 0
BeginStands =
    (code : PlainCode) (id function : ℕ) (argument : Value) (old : Thread) →
    IsWellFormed code → function < length code.functions → StandsIn code (thread_after_begin code id function argument old)

abbrev pub StepStands : Type 0
StepStands =
    (code : PlainCode) (places : ℕ → ℕ) (thread : Thread) →
    IsWellFormed code → StandsIn code thread → StandsIn code (thread_after_step code places thread)

abbrev pub AnswerStands : Type 0
AnswerStands =
    (code : PlainCode) (thread : Thread) (answer : Answer) →
    IsWellFormed code → StandsIn code thread → StandsIn code (thread_after_answer code thread answer)

abbrev pub PollStands : Type 0
PollStands =
    (code : PlainCode) (thread : Thread) →
    IsWellFormed code → StandsIn code thread → want_of code thread ≡ want.Poll → StandsIn code (thread_after_poll thread)

-- a thread of which a half is freed stands where it stood
abbrev pub FreedStands : Type 0
FreedStands =
    (code : PlainCode) (thread : Thread) (register : ℕ) →
    register < register_count thread → StandsIn code thread → StandsIn code (thread_with_freed thread register)

-- so there is an instruction where it stands
abbrev pub InstructionIsThere : Type 0
InstructionIsThere = (code : PlainCode) (thread : Thread) → StandsIn code thread → (i : Instruction) × (here code thread ≡ Some i)

-- the address of a place has 64 bits
abbrev pub IsPlace : ℕ → Type 0
IsPlace place = place < 2 ^ 60
