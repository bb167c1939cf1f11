-- The words so far are those of the static objects below this number.
use Rattle.std.proofs.Common.{◌≡◌}
use Rattle.c_expr_rules.specs.Views.{seen_state}
use Rattle.c_file_rules.specs.Files.{words_in}
use Rattle.c_file_rules.specs.Statics.{statics_below}
use Rattle.c_objects.proofs.statics.word_count.Given as goal

abbrev pub invariant-numbers : goal.invariant-numbers
invariant-numbers l = l.count ≡ words_in (statics_below (seen_state l.state) l.number)
