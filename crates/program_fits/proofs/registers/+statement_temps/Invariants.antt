-- What stands before the index needs no more than there is.
use Rattle.std.proofs.Common.{◌+◌, ◌*◌, All, take}
use Rattle.std.specs.Prelude.{max}
use denote.Param.Weighed.{most}
use Rattle.c_tree.specs.declared.stmt.Stmt.{size-Stmt}
use Rattle.program_fits.specs.Parts.{StmtIsWithin}
use Rattle.program_fits.proofs.registers.+statement_temps.Given as goal

abbrev pub invariant-statements_are_within-loop-stmt : goal.invariant-statements_are_within-loop-stmt
invariant-statements_are_within-loop-stmt l = All (StmtIsWithin l.limit) (take l.stmt-index l.body)

-- ---- each part is less deep, and what is handed on unchanged ranks lower

abbrev pub decreases-stmt_is_within : goal.decreases-stmt_is_within
decreases-stmt_is_within l = 3 * goal.size-stmt_is_within l

abbrev pub decreases-statements_are_within : goal.decreases-statements_are_within
decreases-statements_are_within l = 3 * goal.size-statements_are_within l + 1

abbrev pub decreases-both_are_within : goal.decreases-both_are_within
decreases-both_are_within l = 3 * max (size-Stmt l.one.now) (size-Stmt l.other.now) + 1

abbrev pub decreases-branches_are_within : goal.decreases-branches_are_within
decreases-branches_are_within l = 3 * max (size-Stmt l.one.now) (size-Stmt l.other.now) + 2

abbrev pub decreases-switch_is_within : goal.decreases-switch_is_within
decreases-switch_is_within l = 3 * most size-Stmt l.body.now + 2
