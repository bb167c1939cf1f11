-- What holds of every run of one thread.
use Rattle.std.specs.Prelude.{◌≡◌, ℕ, ◌+◌, ◌++◌, IsSome, Some, None}
use Rattle.form_tree.specs.Plain.{PlainProgram}
use Rattle.filc_code.specs.Plain.{PlainCode}
use Rattle.filc_code.specs.WellFormed.{IsWellFormed}
use Rattle.ideal_machine.specs.Memory.{World}
use Rattle.ideal_machine.specs.Play.{Cut}
use Rattle.form_play.specs.Legal.{History, IsLegalHistory}
use Rattle.form_play.specs.Observable.{finish_of}
use Rattle.code_gen.specs.Correct.{Plays}
use Rattle.single_thread.specs.Alone.{history_of_run, jumps_of_run, stop_of_run}

-- a run of code that plays a program is a legal history of it, where each loop makes at most one round more than the
-- run made backward jumps
abbrev pub RunsAreLegal : Type 0
RunsAreLegal =
    (world : World) (program : PlainProgram) (code : PlainCode) → code.main ≡ program.main → Plays code program → (m : ℕ) →
    IsLegalHistory (history_of_run world m code) program world (jumps_of_run world m code + 1)

-- and where each loop makes at most as many rounds as the run has instructions
abbrev pub RunsAreLegalByTurns : Type 0
RunsAreLegalByTurns =
    (world : World) (program : PlainProgram) (code : PlainCode) → code.main ≡ program.main → Plays code program → (m : ℕ) →
    IsLegalHistory (history_of_run world m code) program world m

-- more instructions only add to the history
abbrev pub RunsGoOn : Type 0
RunsGoOn =
    (world : World) (code : PlainCode) (m k : ℕ) →
    (more : History) × (history_of_run world (m + k) code ≡ history_of_run world m code ++ more)

-- once the program has ended, they add nothing
abbrev pub RunsEnd : Type 0
RunsEnd =
    (world : World) (code : PlainCode) (m k : ℕ) → IsSome (finish_of (history_of_run world m code)) →
    history_of_run world (m + k) code ≡ history_of_run world m code

-- a run of well-formed code that hasn't ended the program is unfinished: it was cut after its m instructions, and
-- never waits for an answer
abbrev pub RunsAreUnfinished : Type 0
RunsAreUnfinished =
    (world : World) (code : PlainCode) → IsWellFormed code → (m : ℕ) →
    finish_of (history_of_run world m code) ≡ None → stop_of_run world m code ≡ Some Cut
