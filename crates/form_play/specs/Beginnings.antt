-- Each beginning of a legal history is legal. So a statement that a run is legal has to say which history is the run's.
use Rattle.std.specs.Prelude.{ℕ, ◌++◌}
use Rattle.form_tree.specs.Plain.{PlainProgram}
use Rattle.ideal_machine.specs.Memory.{World}
use Rattle.form_play.specs.Legal.{History, IsLegalHistory}

abbrev pub BeginningsAreLegal : Type 0
BeginningsAreLegal =
    (before after : History) (program : PlainProgram) (world : World) (n : ℕ) →
    IsLegalHistory (before ++ after) program world n → IsLegalHistory before program world n
