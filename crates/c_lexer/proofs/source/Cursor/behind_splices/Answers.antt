use Rattle.c_lexer.proofs.Cursors.{over_splice}
use Rattle.c_lexer.proofs.source.Cursor.behind_splices.Goals as goal

pub loop-origin-preserved : goal.loop-origin-preserved
loop-origin-preserved c =
    let l = c.loop-origin in
    record {
      reaches = over_splice c.args.origin c.args.file.now l.cursor c.lines_ended.result l.invariant.reaches c.loop-origin-test.ensures.value c.loop-origin-test.ensures.room c.lines_ended.ensures.value c.lines_ended.ensures.small;
      byte = l.invariant.byte;
    }
