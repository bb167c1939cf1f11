use Rattle.std.proofs.Common.{arith, ◌==◌, get_or, refl}
use Rattle.c_lexer.specs.Classes.{star}
use Rattle.c_lexer.proofs.Runs.{comment_ends, comment_on, comment_none}
use Rattle.c_lexer.proofs.front.comment_rest.Goals as goal

pub returns-then-ends_comment-clause-value : goal.returns-then-ends_comment-clause-value
returns-then-ends_comment-clause-value c =
    comment_ends c.loop-i.starred c.args.text.now c.loop-i.i _ (omega arith) c.if-ends_comment.ensures c.loop-i.invariant

pub loop-i-preserved : goal.loop-i-preserved
loop-i-preserved c = comment_on c.loop-i.starred (get_or c.args.text.now c.loop-i.i 0 == star) c.args.text.now c.loop-i.i _ (omega arith) c.if-ends_comment.ensures refl c.loop-i.invariant

pub returns-clause-value : goal.returns-clause-value
returns-clause-value c = comment_none c.loop-i.starred c.args.text.now c.loop-i.i _ (omega arith) c.loop-i.invariant
