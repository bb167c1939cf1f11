-- The play of register code: an equation for each instruction.
--
-- A thread stands at an index of its function's code and has registers. Each instruction asks what it asks, writes its
-- register, and goes on at the next index, or where it jumps. A jump that doesn't lead forward is counted.
use Rattle.std.specs.Prelude.{ℕ, zero, suc, ◌+◌, ◌*◌, List, Option, Some, None, Bool, true, false, nat_lt, slice_get, replicate, ◌==◌}
use Rattle.filc_code.specs.declared.op.Instruction.{Instruction}
use Rattle.filc_code.specs.declared.op.Op.{Op}
use Rattle.filc_code.specs.declared.op.Op.TheVariants.{Const, Move, Binary, Jump, JumpZero, Return, Out, Exit}
use Rattle.filc_code.specs.Plain.{PlainFunction, PlainCode}
use Rattle.filc_code.specs.Numbers.{operator_at, type_at}
use Rattle.ideal_machine.specs.declared.value.Value.{Value}
use Rattle.ideal_machine.specs.declared.event.Answer.{Answer}
use Rattle.ideal_machine.specs.Values.{integer, zero_value, value_at, put_at}
use Rattle.ideal_machine.specs.Play.{Stops, Jump as JumpBack, Waits, Cut, bind, Behaviour, run, fresh_log}
use Rattle.ideal_machine.specs.Phrases.{Start, Phrase, exit, leave, put_out, arithmetic, if_zero}

-- what follows a jump, which is counted unless it leads forward
abbrev pub go_to : Bool → Phrase ℕ → Phrase ℕ
go_to true next = next
go_to false next = JumpBack next

-- what follows: from an index, with registers
abbrev pub Next : Type 0
Next = ℕ → List Value → Phrase ℕ

-- one operation of a thread's first function, which is `main` or isn't
abbrev pub act : Bool → Op → ℕ → Next → ℕ → List Value → Phrase ℕ
act main (Const d constant) line next index registers = next (index + 1) (put_at registers d (integer constant))
act main (Move d a) line next index registers = next (index + 1) (put_at registers d (value_at registers a))
act main (Binary d a b op t) line next index registers =
    bind (arithmetic (operator_at op) (type_at t) (value_at registers a) (value_at registers b) line)
    (λ _ v. next (index + 1) (put_at registers d v))
act main (Jump target) line next index registers = go_to (nat_lt index target) (next target registers)
act main (JumpZero a target) line next index registers =
    if_zero (value_at registers a).number (go_to (nat_lt index target) (next target registers)) (next (index + 1) registers)
act main (Return a) line next index registers = leave main (value_at registers a)
act main (Out a) line next index registers =
    bind (put_out (value_at registers a) line) (λ _ _. next (index + 1) registers)
act main (Exit a) line next index registers = exit (value_at registers a)

-- the instruction at an index; well-formed code has one wherever a thread comes
abbrev pub act_at : Bool → Option Instruction → Next → Next
act_at main None next index registers = Stops Waits
act_at main (Some i) next index registers = act main i.op i.line next index registers

-- at most so many instructions
abbrev pub exec : Bool → List Instruction → ℕ → Next
exec main code zero index registers = Stops Cut
exec main code (suc m) index registers = act_at main (slice_get code index) (exec main code m) index registers

-- a frame's registers when its function is entered: all zero
unfoldable pub first_registers : List Value
first_registers = replicate 256 zero_value

-- a function from its first instruction on
abbrev pub exec_called : Bool → Option PlainFunction → ℕ → Phrase ℕ
exec_called main None m = Stops Waits
exec_called main (Some f) m = exec main f.instructions m 0 first_registers

-- where the machine that carries out code has an object, whose number there is the index of its first word. No instruction
-- of today asks for it
abbrev pub place_address : ℕ → ℕ
place_address place = 65536 + 8 * place

-- the play of a thread's code, of at most so many instructions; it gives the thread's result
abbrev pub exec_thread : ℕ → PlainCode → Start → Phrase ℕ
exec_thread m code start = exec_called (start.function == code.main) (slice_get code.functions start.function) m

-- the events that a thread's code makes on these answers, and what comes of it
abbrev pub code_events : ℕ → PlainCode → Start → List Answer → Behaviour (Unit {0}) ℕ
code_events m code start answers = run (exec_thread m code start) (fresh_log answers)
