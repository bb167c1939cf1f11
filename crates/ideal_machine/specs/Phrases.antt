-- What C's text and register code say alike: the play of each event, with the line at which it may trap.
--
-- A phrase has no state, and says nothing of what goes on after it: both sides bind that to it. So each event is written
-- once, and a law of all phrases serves every one.
use Rattle.std.specs.Prelude.{ℕ, zero, suc, ◌%◌, true, false, Bool, Option, Some, None, Result, Ok, Err}
use Rattle.filc_num.specs.declared.integer.IntType.{IntType}
use Rattle.filc_num.specs.declared.integer.BinOp.{BinOp}
use Rattle.filc_num.specs.declared.integer.ArithFault.{ArithFault}
use Rattle.filc_num.specs.declared.integer.ArithFault.TheVariants.{Divide as ArithDivide, Shift as ArithShift}
use Rattle.filc_num.specs.declared.reason.Reason.{Reason}
use Rattle.filc_num.specs.declared.reason.Reason.TheVariants.{Divide, Shift}
use Rattle.ideal_machine.specs.declared.value.Value.{Value}
use Rattle.ideal_machine.specs.declared.finish.Finish.TheVariants.{Exited, Trapped}
use Rattle.ideal_machine.specs.declared.event.Event.TheVariants.{Out, End, Exit, Trap}
pub use Rattle.ideal_machine.specs.Words.{operator_result}
use Rattle.ideal_machine.specs.Values.{integer}
use Rattle.ideal_machine.specs.Queries.{Makes}
use Rattle.ideal_machine.specs.Play.{Play, Gives, Stops, Asks, Finished}

-- what a thread is begun with: its id, the number of its function, its argument, and where each object is, by its number
pub record Start : Type 0 where
  pub id : ℕ
  pub function : ℕ
  pub argument : Value
  pub base : ℕ → ℕ

-- a play without a state
abbrev pub Phrase : Type 0 → Type 0
Phrase X = Play (Unit {0}) X

-- ---- ends

-- stops the program for a reason, at a line
abbrev pub trap : {S A : Type 0} → Reason → ℕ → Play S A
trap reason line = Asks (Makes (Trap reason line)) (λ _. Stops (Finished (Trapped reason line)))

-- a refusal is a trap
abbrev pub unless_refused : {S A : Type 0} → ℕ → Play S A → Option Reason → Play S A
unless_refused line go None = go
unless_refused line go (Some reason) = trap reason line

-- ends the program with the low byte of a value as its status
abbrev pub exit : Value → Phrase ℕ
exit value = Asks (Makes (Exit (value.number % 256))) (λ _. Stops (Finished (Exited (value.number % 256))))

-- ends the thread, which gives its result
abbrev pub end_thread : Value → Phrase ℕ
end_thread value = Asks (Makes (End value.number)) (λ _. Gives tt value.number)

-- the return of a thread's first function: that of `main` ends the program, that of another ends the thread
abbrev pub leave : Bool → Value → Phrase ℕ
leave true value = exit value
leave false value = end_thread value

-- ---- output

-- puts out the low byte of a value
abbrev pub put_out : Value → ℕ → Phrase (Unit {0})
put_out value line = Asks (Makes (Out (value.number % 256))) (unless_refused line (Gives tt tt))

-- ---- arithmetic

-- why arithmetic without a result traps
abbrev pub reason_of : ArithFault → Reason
reason_of ArithDivide = Divide
reason_of ArithShift = Shift

-- the value of a result; arithmetic without one is a trap
abbrev pub arithmetic_result : Result ℕ ArithFault → ℕ → Phrase Value
arithmetic_result (Ok n) line = Gives tt (integer n)
arithmetic_result (Err fault) line = trap (reason_of fault) line

-- a op b, made in this type
abbrev pub arithmetic : BinOp → IntType → Value → Value → ℕ → Phrase Value
arithmetic op ty a b line = arithmetic_result (operator_result op ty a.number b.number) line

-- ---- a choice

-- the first where the number is 0, else the second
abbrev pub if_zero : {X : Type 0} → ℕ → X → X → X
if_zero zero a b = a
if_zero (suc n) a b = b
