use Rattle.std.proofs.Common.{◌+◌, ◌-◌, ◌*◌, length, map}
use Rattle.form_reader.proofs.Blocks.{StmtsSoFar}
use Rattle.form_reader.proofs.statements.+statement.Given as goal

abbrev pub decreases-statements : goal.decreases-statements
decreases-statements l = 4 * l.room + 2

abbrev pub decreases-statement : goal.decreases-statement
decreases-statement l = 4 * l.room + 1

abbrev pub decreases-worded : goal.decreases-worded
decreases-worded l = 4 * l.room

abbrev pub decreases-looped : goal.decreases-looped
decreases-looped l = 4 * l.room - 1

abbrev pub decreases-marked : goal.decreases-marked
decreases-marked l = 4 * l.room

abbrev pub invariant-statements-loop-alloc : goal.invariant-statements-loop-alloc
invariant-statements-loop-alloc l =
    StmtsSoFar (map (λ n. n.now) l.names) l.putchar l.room l.fn.tokens l.tokens l.list

abbrev pub decreases-statements-loop-alloc : goal.decreases-statements-loop-alloc
decreases-statements-loop-alloc l = length l.tokens
