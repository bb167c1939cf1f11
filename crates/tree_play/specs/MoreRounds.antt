-- A greater bound on rounds only adds: a thread that was cut goes on, and any other does the same.
use Rattle.std.specs.Prelude.{ℕ, ◌≤◌, List}
use Rattle.c_tree.specs.Plain.{PlainProgram}
use Rattle.ideal_machine.specs.declared.event.Answer.{Answer}
use Rattle.ideal_machine.specs.Phrases.{Start}
use Rattle.ideal_machine.specs.Reaches.{Reaches}
use Rattle.tree_play.specs.TreePlay.{play}

abbrev pub MoreRounds : Type 0
MoreRounds =
    (n n' : ℕ) → n ≤ n' → (program : PlainProgram) (start : Start) (answers : List Answer) →
    Reaches (play n program start answers) (play n' program start answers)
