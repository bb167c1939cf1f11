-- A thread runs as its code plays.
--
-- Both have a bound: a run one on turns, and a play one on instructions. A run that isn't cut is what the play makes in any
-- bound above its turns; a play that isn't cut is what a run makes in turns enough; and a run that is cut has made the
-- first of the play's events.
use Rattle.std.specs.Prelude.{◌≡◌, ℕ, ◌<◌, ◌+◌, ◌*◌, ◌++◌, List, length, Some, slice_get}
use Rattle.whole_code.specs.Plain.{PlainFunction, PlainCode}
use Rattle.ideal_machine.specs.declared.event.Answer.{Answer}
use Rattle.ideal_machine.specs.declared.event.Event.{Event}
use Rattle.ideal_machine.specs.Play.{Cut, Behaviour, Ends, log_of}
use Rattle.ideal_machine.specs.Phrases.{Start}
use Rattle.whole_thread.specs.CodePlay.{code_events}
use Rattle.whole_thread.specs.Thread.{Thread}
use Rattle.whole_thread.specs.PlaysOn.{by_place}
use Rattle.thread_runs.specs.Run.{run_of}

-- its bound didn't cut it
abbrev pub IsUncut : Behaviour (Unit {0}) ℕ → Type 0
IsUncut (Ends Cut log) = ⊥
IsUncut b = Unit {0}

-- the second has made the events of the first, and maybe more
abbrev pub GoesBeyond : (first second : Behaviour (Unit {0}) ℕ) → Type 0
GoesBeyond first second = (more : List Event) × ((log_of second).events ≡ (log_of first).events ++ more)

-- a run that ends, or waits for an answer, is the play with a greater bound
abbrev pub RunsAreAsPlayed : Type 0
RunsAreAsPlayed =
    (code : PlainCode) (places : ℕ → ℕ) (start : Start) (f : PlainFunction) (old : Thread) (answers : List Answer) (turns bound : ℕ) →
    slice_get code.functions start.function ≡ Some f → turns < bound → IsUncut (run_of code places turns start old answers) →
    code_events bound code (by_place places start) answers ≡ run_of code places turns start old answers

-- a play that ends, or waits for an answer, is the run with turns for two in each instruction, and one for each answer
abbrev pub PlaysAreRun : Type 0
PlaysAreRun =
    (code : PlainCode) (places : ℕ → ℕ) (start : Start) (f : PlainFunction) (old : Thread) (answers : List Answer) (turns bound : ℕ) →
    slice_get code.functions start.function ≡ Some f → 2 * bound + length answers < turns →
    IsUncut (code_events bound code (by_place places start) answers) →
    code_events bound code (by_place places start) answers ≡ run_of code places turns start old answers

-- what a run has made so far is what the play makes first
abbrev pub RunsBeginAsPlayed : Type 0
RunsBeginAsPlayed =
    (code : PlainCode) (places : ℕ → ℕ) (start : Start) (f : PlainFunction) (old : Thread) (answers : List Answer) (turns bound : ℕ) →
    slice_get code.functions start.function ≡ Some f → turns < bound →
    GoesBeyond (run_of code places turns start old answers) (code_events bound code (by_place places start) answers)
