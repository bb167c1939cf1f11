-- The runner's turns: one turn is one instruction, and what it leaves for the turns to come is seen by the outside as
-- before.
use Rattle.std.specs.Prelude.{◌≡◌, ℕ, suc, List, ◌++◌, Option, Some, None, true, slice_get}
use Rattle.filc_code.specs.Plain.{PlainFunction, PlainCode}
use Rattle.ideal_machine.specs.declared.finish.Finish.{Finish}
use Rattle.ideal_machine.specs.declared.finish.Finish.TheVariants.{Trapped}
use Rattle.ideal_machine.specs.Memory.{Memory}
use Rattle.ideal_machine.specs.Play.{Stops, Waits}
use Rattle.ideal_machine.specs.Phrases.{Phrase}
use Rattle.form_play.specs.Observable.{Observable, bytes_of, finish_of}
use Rattle.code_thread.specs.declared.stage.Stage.{Stage}
use Rattle.code_thread.specs.declared.stage.Stage.TheVariants.{Acts, PutsOut, Exits, Traps}
use Rattle.code_thread.specs.Thread.{Thread, plays_on, IsThreadOf}
use Rattle.single_thread.specs.Alone.{made_by, memory_after_begin, run_world}

-- the memory of a running program that has put out these bytes
abbrev pub memory_of : PlainCode → List ℕ → Memory
memory_of code output = record (memory_after_begin run_world code) { output = output }

-- what the outside sees where these bytes are out and this play goes on
unfoldable pub seen_by : PlainCode → Phrase ℕ → List ℕ → Observable
seen_by code play output =
    let made = made_by run_world play (memory_of code output) in
    record { bytes = output ++ bytes_of made; finish = finish_of made }

-- the play of a thread of a function, from where it stands
abbrev pub plays_in : Option PlainFunction → ℕ → Thread → Phrase ℕ
plays_in None m thread = Stops Waits
plays_in (Some f) m thread = plays_on f.instructions m thread

-- what the outside sees where these bytes are out and a thread makes at most m more instructions
abbrev pub seen_from : PlainCode → ℕ → Thread → List ℕ → Observable
seen_from code m thread output = seen_by code (plays_in (slice_get code.functions thread.function) m thread) output

-- what it has seen once the run has ended
abbrev pub seen_at_end : List ℕ → Option Finish → Observable
seen_at_end output finish = record { bytes = output; finish = finish }

-- a thread of `main` stands before an instruction
abbrev pub IsReadyAt : Stage → Type 0
IsReadyAt (Acts op line) = Unit {0}
IsReadyAt (PutsOut byte line) = Unit {0}
IsReadyAt (Exits status) = Unit {0}
IsReadyAt stage = ⊥

-- the thread of `main` is before an instruction
pub record IsReady (code : PlainCode) (thread : Thread) : Type 0 where
  pub of_code : IsThreadOf code thread
  pub main : thread.main ≡ true
  pub stage : IsReadyAt thread.stage

-- the end of the program by the trap at which a thread stands
abbrev pub trap_at : Stage → Option Finish
trap_at (Traps reason line) = Some (Trapped reason line)
trap_at stage = None

-- a turn from one thread and its bytes to another: where the program goes on, the outside sees what it would have seen;
-- where it ended, that is all that the outside sees
abbrev pub TurnTells : PlainCode → Thread → List ℕ → Option Finish → Thread → List ℕ → Type 0
TurnTells code old before None new after =
    IsReady code new × ((m : ℕ) → seen_from code (suc m) old before ≡ seen_from code m new after)
TurnTells code old before (Some finish) new after =
    (m : ℕ) → seen_from code (suc m) old before ≡ seen_at_end after (Some finish)
