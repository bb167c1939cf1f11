-- The code of the locals from the index on has been put before the tail.
use Rattle.std.proofs.Common.{◌≡◌, drop}
use Rattle.stmt_gen.specs.Code.{locals_code}
use Rattle.expr_emit.specs.Tail.{before}
use Rattle.stmt_emit.proofs.statement.emit_locals.Given as goal

abbrev pub invariant-loop-index : goal.invariant-loop-index
invariant-loop-index l = l.tail ≡ before (locals_code l.library (drop l.index l.locals) l.t) l.fn.tail
