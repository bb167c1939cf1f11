-- The static objects so far are those below this number.
use Rattle.c_expr_rules.specs.Views.{seen_state}
use Rattle.c_file_rules.specs.Files.{AreStatics}
use Rattle.c_file_rules.specs.Statics.{statics_below}
use Rattle.c_objects.proofs.statics.statics_of.Given as goal

abbrev pub invariant-numbers : goal.invariant-numbers
invariant-numbers l = AreStatics (statics_below (seen_state l.state) l.number) l.statics.items
