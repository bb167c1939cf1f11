-- The sink took the pieces so far, and its count of faults never fell.
use Rattle.std.proofs.Common.{◌≡◌, ◌≤◌, map, take}
use Rattle.filc_io.specs.Outside.{append}
use Rattle.filc_top.specs.Writing.{concat}
use Rattle.filc_top.proofs.lines.write_pieces.Given as goal

abbrev pub invariant-loop-piece : goal.invariant-loop-piece
invariant-loop-piece g l = record {
  taken : (g.E.Sink.state l.err).taken ≡ append (g.E.Sink.state l.initial.err).taken (concat (map (λ piece. piece.now) (take l.piece-index l.pieces)));
  never_falls : (g.E.Sink.state l.initial.err).faults ≤ (g.E.Sink.state l.err).faults;
}
