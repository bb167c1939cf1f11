-- A history stays legal with a greater bound: a smaller bound says more.
use Rattle.std.specs.Prelude.{ℕ, ◌≤◌}
use Rattle.form_tree.specs.Plain.{PlainProgram}
use Rattle.ideal_machine.specs.Memory.{World}
use Rattle.form_play.specs.Legal.{History, IsLegalHistory}

abbrev pub MoreRounds : Type 0
MoreRounds =
    (history : History) (program : PlainProgram) (world : World) (n n' : ℕ) → n ≤ n' →
    IsLegalHistory history program world n → IsLegalHistory history program world n'
