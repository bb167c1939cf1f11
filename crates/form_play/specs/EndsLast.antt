-- A thread makes nothing after it ended itself or the program.
use Rattle.std.specs.Prelude.{◌≡◌, ℕ, List, [], ◌∷◌, Bool, true, false}
use Rattle.form_tree.specs.Plain.{PlainProgram}
use Rattle.ideal_machine.specs.declared.event.Event.{Event}
use Rattle.ideal_machine.specs.declared.event.Event.TheVariants.{End, Exit, Trap}
use Rattle.ideal_machine.specs.declared.event.Answer.{Answer}
use Rattle.ideal_machine.specs.Play.{log_of}
use Rattle.ideal_machine.specs.Phrases.{Start}
use Rattle.form_play.specs.FormPlay.{play}

-- the event ends its thread
abbrev pub is_end : Event → Bool
is_end (End result) = true
is_end (Exit status) = true
is_end (Trap reason line) = true
is_end event = false

-- an event that ends the thread is the last one
abbrev pub AreEndedOnce : List Event → Type 0
AreEndedOnce [] = Unit {0}
AreEndedOnce (event ∷ rest) = (is_end event ≡ true → rest ≡ []) × AreEndedOnce rest

abbrev pub NothingFollowsAnEnd : Type 0
NothingFollowsAnEnd =
    (n : ℕ) (program : PlainProgram) (start : Start) (answers : List Answer) →
    AreEndedOnce (log_of (play n program start answers)).events
