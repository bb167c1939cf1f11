-- Laws of legal histories: one stays legal with a greater bound on rounds, and each of its beginnings is legal. So a
-- statement that a run is legal has to say which history is the run's.
use Rattle.std.specs.Prelude.{ℕ, ◌≤◌, ◌++◌}
use Rattle.c_tree.specs.Plain.{PlainProgram}
use Rattle.ideal_machine.specs.Memory.{World}
use Rattle.tree_play.specs.Legal.{History, IsLegalHistory}

abbrev pub HistoriesStayLegal : Type 0
HistoriesStayLegal =
    (history : History) (program : PlainProgram) (world : World) (n n' : ℕ) → n ≤ n' →
    IsLegalHistory history program world n → IsLegalHistory history program world n'

abbrev pub BeginningsAreLegal : Type 0
BeginningsAreLegal =
    (before after : History) (program : PlainProgram) (world : World) (n : ℕ) →
    IsLegalHistory (before ++ after) program world n → IsLegalHistory before program world n
