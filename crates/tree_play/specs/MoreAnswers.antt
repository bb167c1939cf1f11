-- More answers only add: on fewer a thread takes them all and makes the first of its events, or it does all that it does on
-- more.
use Rattle.std.specs.Prelude.{◌≡◌, ◌⊎◌, ℕ, List, [], ◌++◌}
use Rattle.c_tree.specs.Plain.{PlainProgram}
use Rattle.ideal_machine.specs.declared.event.Event.{Event}
use Rattle.ideal_machine.specs.declared.event.Answer.{Answer}
use Rattle.ideal_machine.specs.Play.{Log, log_of}
use Rattle.ideal_machine.specs.Phrases.{Start}
use Rattle.tree_play.specs.TreePlay.{play}

-- every answer is taken, and the events are the first of those of a longer log
pub record IsFirstOf (short long : Log) : Type 0 where
  pub taken : short.answers ≡ []
  pub events : (more : List Event) × (long.events ≡ short.events ++ more)

-- the events are the same, and these answers more are left
pub record LeavesMore (more : List Answer) (short long : Log) : Type 0 where
  pub left : long.answers ≡ short.answers ++ more
  pub events : long.events ≡ short.events

abbrev pub MoreAnswers : Type 0
MoreAnswers =
    (n : ℕ) (program : PlainProgram) (start : Start) (answers more : List Answer) →
    let short = log_of (play n program start answers) in
    let long = log_of (play n program start (answers ++ more)) in
    IsFirstOf short long ⊎ LeavesMore more short long
