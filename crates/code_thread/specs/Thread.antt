-- A thread of code as plain data, and what each call makes of it.
--
-- A thread stands at an index of its function's code, before an instruction on its registers or at an event that waits for
-- its answer. `plays_on` says what its state means: the play of the instructions from there on. Each call goes on in
-- that play, by one instruction, or by the answer to one event.
use Rattle.std.specs.Prelude.{◌≡◌, ℕ, zero, suc, ◌+◌, ◌%◌, ◌<◌, List, length, Option, Some, None, Bool, true, false, Result, Ok, Err, nat_lt, slice_get, ◌==◌, ◌||◌}
use Rattle.filc_num.specs.declared.registers.TheConstants.{REGISTERS}
use Rattle.filc_num.specs.declared.integer.ArithFault.{ArithFault}
use Rattle.filc_code.specs.declared.op.Instruction.{Instruction}
use Rattle.filc_code.specs.declared.op.Op.{Op}
use Rattle.filc_code.specs.declared.op.Op.TheVariants.{Const, Move, Binary, Jump, JumpZero, Return, Out, Exit}
use Rattle.filc_code.specs.Plain.{PlainFunction, PlainCode, instruction_at}
use Rattle.filc_code.specs.Numbers.{operator_at, type_at}
use Rattle.filc_code.specs.WellFormed.{IsFunctionWellFormed}
use Rattle.ideal_machine.specs.declared.value.Value.{Value}
use Rattle.ideal_machine.specs.declared.finish.Finish.TheVariants.{Exited, Trapped}
use Rattle.ideal_machine.specs.declared.event.Event.TheVariants.{Out as OutEvent, End as EndEvent, Exit as ExitEvent, Trap as TrapEvent}
use Rattle.ideal_machine.specs.declared.event.Answer.{Answer}
use Rattle.ideal_machine.specs.declared.event.Answer.TheVariants.{Refused, Done}
use Rattle.ideal_machine.specs.Values.{integer, value_at, put_at}
use Rattle.ideal_machine.specs.Play.{Gives, Stops, Finished as FinishedStop}
use Rattle.ideal_machine.specs.Phrases.{Phrase, operator_result, reason_of, trap}
use Rattle.code_thread.specs.declared.stage.Stage.{Stage}
use Rattle.code_thread.specs.declared.stage.Stage.TheVariants.{Acts, PutsOut, Ends, Exits, Traps, Over}
use Rattle.code_thread.specs.declared.stage.Halt.{Halt}
use Rattle.code_thread.specs.declared.stage.Halt.TheVariants.{Returned, Finished}
use Rattle.code_thread.specs.declared.stage.Want.{Want}
use Rattle.code_thread.specs.declared.stage.Want.TheVariants.{Event as WantEvent, Instruction as WantInstruction, Stopped}
use Rattle.code_thread.specs.Exec.{go_to, exec, first_registers}

-- a thread: the number of its first function, whether that is `main`, its index there, its registers and its stage
pub record Thread : Type 0 where
  pub function : ℕ
  pub main : Bool
  pub index : ℕ
  pub registers : List Value
  pub stage : Stage

-- what a thread wants
abbrev pub want_at : Stage → Want
want_at (Acts op line) = WantInstruction
want_at (PutsOut byte line) = WantEvent (OutEvent byte)
want_at (Ends result) = WantEvent (EndEvent result)
want_at (Exits status) = WantEvent (ExitEvent status)
want_at (Traps reason line) = WantEvent (TrapEvent reason line)
want_at (Over halt) = Stopped

abbrev pub want_of : Thread → Want
want_of thread = want_at thread.stage

-- ---- coming to an instruction

-- the stage of a thread's return
abbrev pub leave_stage : Bool → Value → Stage
leave_stage true value = Exits (value.number % 256)
leave_stage false value = Ends value.number

-- the stage before an instruction
abbrev pub stage_of : Bool → Op → ℕ → List Value → Stage
stage_of main (Return a) line registers = leave_stage main (value_at registers a)
stage_of main (Out a) line registers = PutsOut ((value_at registers a).number % 256) line
stage_of main (Exit a) line registers = Exits ((value_at registers a).number % 256)
stage_of main op line registers = Acts op line

-- well-formed code has an instruction wherever a thread comes
abbrev pub stage_at : Bool → Option Instruction → List Value → Stage
stage_at main None registers = Over (Returned 0)
stage_at main (Some i) registers = stage_of main i.op i.line registers

-- a thread that comes to an index
abbrev pub thread_at : PlainCode → ℕ → Bool → ℕ → List Value → Thread
thread_at code function main index registers = record {
  function = function;
  main = main;
  index = index;
  registers = registers;
  stage = stage_at main (instruction_at code function index) registers;
}

-- a thread at another stage of its instruction
abbrev pub at_stage : Thread → Stage → Thread
at_stage thread stage = record thread { stage = stage }

-- ---- one instruction on registers

-- the registers with what arithmetic gave
abbrev pub put_result : ℕ → List Value → Result ℕ ArithFault → Result (List Value) ArithFault
put_result d registers (Ok n) = Ok (put_at registers d (integer n))
put_result d registers (Err fault) = Err fault

-- the registers after an operation, or why it has no result
abbrev pub registers_after : Op → List Value → Result (List Value) ArithFault
registers_after (Const d constant) registers = Ok (put_at registers d (integer constant))
registers_after (Move d a) registers = Ok (put_at registers d (value_at registers a))
registers_after (Binary d a b op t) registers =
    put_result d registers
    (operator_result (operator_at op) (type_at t) (value_at registers a).number (value_at registers b).number)
registers_after op registers = Ok registers

-- the first where the number is 0, else the second
abbrev pub zero_index : ℕ → ℕ → ℕ → ℕ
zero_index zero a b = a
zero_index (suc n) a b = b

-- the index after an operation
abbrev pub index_after : Op → ℕ → List Value → ℕ
index_after (Jump target) index registers = target
index_after (JumpZero a target) index registers = zero_index (value_at registers a).number target (index + 1)
index_after op index registers = index + 1

-- what an operation makes of registers: those after it and its next index, or a fault and nothing changes
abbrev pub IsActed : Op → ℕ → List Value → List Value → Result ℕ ArithFault → Type 0
IsActed op index old new (Ok next) = (registers_after op old ≡ Ok new) × (next ≡ index_after op index old)
IsActed op index old new (Err fault) = (registers_after op old ≡ Err fault) × (new ≡ old)

abbrev pub thread_after_operation : PlainCode → Thread → Op → ℕ → Result (List Value) ArithFault → Thread
thread_after_operation code thread op line (Ok registers) =
    thread_at code thread.function thread.main (index_after op thread.index thread.registers) registers
thread_after_operation code thread op line (Err fault) = at_stage thread (Traps (reason_of fault) line)

-- a thread after the instruction before which it stands
abbrev pub step_from : PlainCode → Thread → Stage → Thread
step_from code thread (Acts op line) = thread_after_operation code thread op line (registers_after op thread.registers)
step_from code thread stage = thread

abbrev pub thread_after_step : PlainCode → Thread → Thread
thread_after_step code thread = step_from code thread thread.stage

-- ---- an answer

abbrev pub answer_at : PlainCode → Thread → Stage → Answer → Thread
answer_at code thread (PutsOut byte line) Done =
    thread_at code thread.function thread.main (thread.index + 1) thread.registers
answer_at code thread (PutsOut byte line) (Refused reason) = at_stage thread (Traps reason line)
answer_at code thread (Ends result) answer = at_stage thread (Over (Returned result))
answer_at code thread (Exits status) answer = at_stage thread (Over (Finished (Exited status)))
answer_at code thread (Traps reason line) answer = at_stage thread (Over (Finished (Trapped reason line)))
answer_at code thread stage answer = thread

-- a thread after the answer to the event that it wants
abbrev pub thread_after_answer : PlainCode → Thread → Answer → Thread
thread_after_answer code thread answer = answer_at code thread thread.stage answer

-- ---- the beginning

abbrev pub thread_after_begin : PlainCode → ℕ → Thread
thread_after_begin code function = thread_at code function (function == code.main) 0 first_registers

-- ---- what a thread's state means

abbrev pub halt_play : Halt → Phrase ℕ
halt_play (Returned result) = Gives tt result
halt_play (Finished finish) = Stops (FinishedStop finish)

-- a trap ends the instruction at hand; at any other stage it is still to be made
abbrev pub plays_at : List Instruction → ℕ → Thread → Stage → Phrase ℕ
plays_at code m thread (Traps reason line) = trap reason line
plays_at code m thread (Over halt) = halt_play halt
plays_at code m thread stage = exec thread.main code m thread.index thread.registers

-- the play of a thread from where it stands, of at most so many instructions
abbrev pub plays_on : List Instruction → ℕ → Thread → Phrase ℕ
plays_on code m thread = plays_at code m thread thread.stage

-- the thread stands at the trap of an instruction that has begun
abbrev pub is_trap : Stage → Bool
is_trap (Traps reason line) = true
is_trap stage = false

abbrev pub is_trapping : Thread → Bool
is_trapping thread = is_trap thread.stage

-- what a step plays: a jump where it jumped back and has no trap, and then what the thread after it plays
abbrev pub step_play : Thread → Thread → Phrase ℕ → Phrase ℕ
step_play old new next = go_to (is_trapping new || nat_lt old.index new.index) next

-- ---- a thread of a code

-- the instruction is still to be made
abbrev pub is_before : Stage → Bool
is_before (Traps reason line) = false
is_before (Over halt) = false
is_before stage = true

-- the thread is one that this code has: before an instruction it stands where the code says
pub record IsThreadOf (code : PlainCode) (thread : Thread) : Type 0 where
  pub running : PlainFunction
  pub there : slice_get code.functions thread.function ≡ Some running
  pub formed : IsFunctionWellFormed running
  pub inside : thread.index < length running.instructions
  pub registers : length thread.registers ≡ REGISTERS
  pub stands : is_before thread.stage ≡ true →
      stage_at thread.main (slice_get running.instructions thread.index) thread.registers ≡ thread.stage
