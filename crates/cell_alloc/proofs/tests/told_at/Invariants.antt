-- The piece isn't done.
use Rattle.cell_alloc.proofs.tests.told_at.Given as goal

abbrev pub invariant-loop-answer : goal.invariant-loop-answer
invariant-loop-answer g l = g.P.Piece.is_going l.piece
