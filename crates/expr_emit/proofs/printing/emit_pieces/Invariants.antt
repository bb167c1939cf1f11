-- The code of the pieces from the index on has been put before the tail.
use Rattle.std.proofs.Common.{◌≡◌, drop}
use Rattle.expr_gen.specs.Operations.{pieces_ops}
use Rattle.expr_gen.specs.Code.{instructions}
use Rattle.expr_emit.specs.Tail.{before}
use Rattle.expr_emit.proofs.printing.emit_pieces.Given as goal

abbrev pub invariant-loop-index : goal.invariant-loop-index
invariant-loop-index l = l.tail ≡ before (instructions l.place.library l.place.line (pieces_ops (drop l.index l.pieces) l.place.t l.c)) l.fn.tail
