-- The code of the statements from the index on has been put before the tail.
use Rattle.std.proofs.Common.{◌≡◌, ◌+◌, ◌-◌, ◌*◌, ◌≤◌, ◌++◌, drop, reverse}
use Rattle.std.specs.Prelude.{max}
use denote.Param.Weighed.{most}
use Rattle.c_tree.specs.declared.stmt.Stmt.{size-Stmt}
use Rattle.expr_emit.specs.Tail.{before}
use Rattle.stmt_emit.specs.Lists.{exits_of, statements_size, statements_code, starts_of}
use Rattle.stmt_emit.proofs.statement.+statement.Given as goal

abbrev pub invariant-emit_statements-loop-index : goal.invariant-emit_statements-loop-index
invariant-emit_statements-loop-index l =
    statements_size l.body ≤ l.fn.tail.start →
    l.tail
    ≡ before (statements_code l.inside.place.library (drop l.index l.body) l.inside.place.t (l.fn.tail.start - statements_size (drop l.index l.body)) (exits_of l.inside.exits)) l.fn.tail

-- and where each of them begins
abbrev pub invariant-emit_switch_body-loop-index : goal.invariant-emit_switch_body-loop-index
invariant-emit_switch_body-loop-index l = record {
  code : statements_size l.body ≤ l.fn.tail.start →
      l.tail
      ≡ before (statements_code l.inside.place.library (drop l.index l.body) l.inside.place.t (l.fn.tail.start - statements_size (drop l.index l.body)) (exits_of l.inside.exits)) l.fn.tail;
  starts : statements_size l.body ≤ l.fn.tail.start →
      l.starts.items ≡ l.fn.starts.items ++ reverse (starts_of (drop l.index l.body) (l.fn.tail.start - statements_size (drop l.index l.body)));
}

-- ---- each part is less deep, and what is handed on unchanged ranks lower

abbrev pub decreases-emit_stmt : goal.decreases-emit_stmt
decreases-emit_stmt l = 3 * goal.size-emit_stmt l

abbrev pub decreases-emit_statements : goal.decreases-emit_statements
decreases-emit_statements l = 3 * goal.size-emit_statements l + 1

abbrev pub decreases-emit_switch_body : goal.decreases-emit_switch_body
decreases-emit_switch_body l = 3 * goal.size-emit_switch_body l + 1

abbrev pub decreases-emit_if : goal.decreases-emit_if
decreases-emit_if l = 3 * max (size-Stmt l.one.now) (size-Stmt l.last.now) + 1

abbrev pub decreases-emit_loop : goal.decreases-emit_loop
decreases-emit_loop l = 3 * max (size-Stmt l.body.now) (size-Stmt l.next.now) + 1

abbrev pub decreases-emit_block : goal.decreases-emit_block
decreases-emit_block l = 3 * most size-Stmt l.body.now + 2

abbrev pub decreases-emit_switch : goal.decreases-emit_switch
decreases-emit_switch l = 3 * most size-Stmt l.body.now + 2
