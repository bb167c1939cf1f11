-- The instructions from the index on have been put before the tail.
use Rattle.std.proofs.Common.{◌≡◌, drop}
use Rattle.expr_gen.specs.Code.{instructions}
use Rattle.expr_emit.specs.Tail.{before}
use Rattle.expr_emit.proofs.tail.put.Given as goal

abbrev pub invariant-loop-index : goal.invariant-loop-index
invariant-loop-index l = l.tail ≡ before (instructions l.place.library l.place.line (drop l.index l.ops)) l.fn.tail
