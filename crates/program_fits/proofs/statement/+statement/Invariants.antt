-- What stands before the index fits.
use Rattle.std.proofs.Common.{◌+◌, ◌*◌, All, take}
use Rattle.std.specs.Prelude.{max}
use denote.Param.Weighed.{most}
use Rattle.c_tree.specs.declared.stmt.Stmt.{size-Stmt}
use Rattle.c_tree.specs.Fits.{StmtFits}
use Rattle.program_fits.proofs.statement.+statement.Given as goal

abbrev pub invariant-statements_fit-loop-stmt : goal.invariant-statements_fit-loop-stmt
invariant-statements_fit-loop-stmt l = All (StmtFits l.names l.here) (take l.stmt-index l.body)

-- ---- each part is less deep, and what is handed on unchanged ranks lower

abbrev pub decreases-stmt_fits : goal.decreases-stmt_fits
decreases-stmt_fits l = 3 * goal.size-stmt_fits l

abbrev pub decreases-statements_fit : goal.decreases-statements_fit
decreases-statements_fit l = 3 * goal.size-statements_fit l + 1

abbrev pub decreases-both_fit : goal.decreases-both_fit
decreases-both_fit l = 3 * max (size-Stmt l.one.now) (size-Stmt l.other.now) + 1

abbrev pub decreases-branches_fit : goal.decreases-branches_fit
decreases-branches_fit l = 3 * max (size-Stmt l.one.now) (size-Stmt l.other.now) + 2

abbrev pub decreases-block_fits : goal.decreases-block_fits
decreases-block_fits l = 3 * most size-Stmt l.body.now + 2

abbrev pub decreases-switch_fits : goal.decreases-switch_fits
decreases-switch_fits l = 3 * most size-Stmt l.body.now + 2
