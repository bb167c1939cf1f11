-- What has been counted, and what is left, is the whole size.
use Rattle.std.proofs.Common.{◌≡◌, ◌+◌, drop}
use Rattle.expr_gen.specs.Code.{print_size}
use Rattle.expr_emit.proofs.size.size_of_print.Given as goal

abbrev pub invariant-loop-piece : goal.invariant-loop-piece
invariant-loop-piece l = l.size + print_size (drop l.piece-index l.pieces) ≡ print_size l.pieces + 5
