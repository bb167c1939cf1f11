-- The pieces so far, and one more or its front, are the text so far.
use Rattle.std.proofs.Common.{sym, arith, add-one}
use Rattle.filc_top.proofs.Pieces.{append-nothing, piece_taken, piece_cut}
use Rattle.filc_top.proofs.lines.write_pieces.Goals as goal

pub loop-piece-init : goal.loop-piece-init
loop-piece-init g c = record {
  taken = sym (append-nothing (g.E.Sink.state c.args.err.now).taken);
  never_falls = omega arith;
}

pub returns-in-Err : goal.returns-in-Err
returns-in-Err g c =
    let cut = piece_cut (λ piece. piece.now) c.args.pieces.now c.loop-piece.piece-index _ (g.E.Sink.state c.args.err.now).taken (g.E.Sink.state c.loop-piece.err).taken (g.E.Sink.state c.write_all_of.new.sink).taken c.in-Err.field-0.count c.loop-piece-test.true c.loop-piece.invariant.taken c.in-Err.ensures.not_all c.in-Err.ensures.prefix in
    record {
      count = cut.0;
      some = cut.1;
      front = cut.2;
      failed = omega (arith, c.loop-piece.invariant.never_falls, c.in-Err.ensures.failed);
    }

pub loop-piece-preserved : goal.loop-piece-preserved
loop-piece-preserved g c = record {
  taken = rw add-one (piece_taken (λ piece. piece.now) c.args.pieces.now c.loop-piece.piece-index _ (g.E.Sink.state c.args.err.now).taken (g.E.Sink.state c.loop-piece.err).taken (g.E.Sink.state c.write_all_of.new.sink).taken c.loop-piece-test.true c.loop-piece.invariant.taken c.in-Ok.ensures.all);
  never_falls = omega (arith, c.loop-piece.invariant.never_falls, c.write_all_of.ensures.never_falls);
}
