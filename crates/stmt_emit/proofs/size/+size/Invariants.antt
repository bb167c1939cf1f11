-- What has been counted, and the sizes of what is left, are the whole size.
use Rattle.std.proofs.Common.{◌≡◌, ◌+◌, ◌*◌, drop}
use Rattle.std.specs.Prelude.{max}
use denote.Param.Weighed.{most}
use Rattle.c_tree.specs.declared.stmt.Stmt.{size-Stmt}
use Rattle.stmt_emit.specs.Lists.{statements_size}
use Rattle.stmt_emit.proofs.size.+size.Given as goal

abbrev pub invariant-size_of_statements-loop-stmt : goal.invariant-size_of_statements-loop-stmt
invariant-size_of_statements-loop-stmt l = l.size + statements_size (drop l.stmt-index l.body) ≡ statements_size l.body

-- ---- each part is less deep, and what is handed on unchanged ranks lower

abbrev pub decreases-size_of_stmt : goal.decreases-size_of_stmt
decreases-size_of_stmt l = 3 * goal.size-size_of_stmt l

abbrev pub decreases-size_of_statements : goal.decreases-size_of_statements
decreases-size_of_statements l = 3 * goal.size-size_of_statements l + 1

abbrev pub decreases-size_of_if : goal.decreases-size_of_if
decreases-size_of_if l = 3 * max (size-Stmt l.one.now) (size-Stmt l.last.now) + 1

abbrev pub decreases-size_of_switch : goal.decreases-size_of_switch
decreases-size_of_switch l = 3 * most size-Stmt l.body.now + 2
