use Rattle.std.proofs.Common.{arith}
use Rattle.c_lexer.proofs.Splices.{joined_at_splice, pushed, joined_at_byte, joined_end}
use Rattle.c_lexer.proofs.source.without_splices.Goals as goal

pub loop-at-preserved-then-splice_at : goal.loop-at-preserved-then-splice_at
loop-at-preserved-then-splice_at c =
    let l = c.loop-at in
    record {
      within = omega (arith, c.if-splice_at.ensures.room);
      bytes = joined_at_splice c.args.file.now l.bytes.items _ l.at (omega arith) c.if-splice_at.ensures.value l.invariant.bytes;
      fewer = omega (arith, l.invariant.fewer);
    }

pub loop-at-preserved : goal.loop-at-preserved
loop-at-preserved c =
    let l = c.loop-at in
    record {
      within = omega arith;
      bytes = pushed l.bytes.items _ _ _ _ _ c.in_ok-push.ensures.items (joined_at_byte c.args.file.now l.at (omega arith) c.if-splice_at.ensures.value) l.invariant.bytes;
      fewer = omega (arith, c.in_ok-push.ensures.len, l.invariant.fewer);
    }

pub returns-clause-bytes : goal.returns-clause-bytes
returns-clause-bytes c = joined_end c.args.file.now c.loop-at.bytes.items _ c.loop-at.at (omega arith) c.loop-at.invariant.bytes
