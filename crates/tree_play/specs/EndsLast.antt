-- A thread makes nothing after it ended itself or the program.
use Rattle.std.specs.Prelude.{ℕ, List}
use Rattle.c_tree.specs.Plain.{PlainProgram}
use Rattle.ideal_machine.specs.declared.event.Answer.{Answer}
use Rattle.ideal_machine.specs.Play.{log_of}
use Rattle.ideal_machine.specs.Phrases.{Start}
use Rattle.ideal_machine.specs.Endings.{AreEndedOnce}
use Rattle.tree_play.specs.TreePlay.{play}

abbrev pub NothingFollowsAnEnd : Type 0
NothingFollowsAnEnd =
    (n : ℕ) (program : PlainProgram) (start : Start) (answers : List Answer) →
    AreEndedOnce (log_of (play n program start answers)).events
