-- The play of code: instruction by instruction, from a thread's first function on.
--
-- A play is cut after so many instructions. A further round of an instruction counts as one.
use Rattle.std.specs.Prelude.{ℕ, zero, suc, List, [], ◌∷◌, slice_get, Option, Some, None}
use Rattle.whole_code.specs.declared.op.Instruction.{Instruction}
use Rattle.whole_code.specs.Plain.{PlainFunction, PlainCode, instruction_at}
use Rattle.ideal_machine.specs.declared.event.Answer.{Answer}
use Rattle.ideal_machine.specs.Play.{Stops, Waits, Cut, Behaviour, run, fresh_log}
use Rattle.ideal_machine.specs.Phrases.{Phrase}
use Rattle.whole_thread.specs.Standing.{Standing, first_registers, trap_line}
use Rattle.whole_thread.specs.Act.{CodeStart, Next, entering, act}

-- the instruction before which a thread stands; well-formed code has one wherever a thread comes
abbrev pub act_at : PlainCode → CodeStart → Next → Standing → Option Instruction → Phrase ℕ
act_at code start next at None = Stops Waits
act_at code start next at (Some i) = act code start next at (trap_line at.frame i) i.op

-- at most so many instructions, from where a thread stands
abbrev pub exec : PlainCode → CodeStart → ℕ → Standing → Phrase ℕ
exec code start zero at = Stops Cut
exec code start (suc m) at = act_at code start (exec code start m) at (instruction_at code at.frame.function at.frame.index)

-- where a thread begins: before its first function's first instruction, with its argument
abbrev pub beginning : CodeStart → PlainFunction → Standing
beginning start f = entering [] start.function None (first_registers f (start.argument ∷ []))

abbrev pub exec_first : PlainCode → CodeStart → ℕ → Option PlainFunction → Phrase ℕ
exec_first code start m None = Stops Waits
exec_first code start m (Some f) = exec code start m (beginning start f)

-- the play of a thread's code, of at most so many instructions; it gives the thread's result
abbrev pub code_play : ℕ → PlainCode → CodeStart → Phrase ℕ
code_play m code start = exec_first code start m (slice_get code.functions start.function)

-- the events that a thread's code makes on these answers, and what comes of it
abbrev pub code_events : ℕ → PlainCode → CodeStart → List Answer → Behaviour (Unit {0}) ℕ
code_events m code start answers = run (code_play m code start) (fresh_log answers)
