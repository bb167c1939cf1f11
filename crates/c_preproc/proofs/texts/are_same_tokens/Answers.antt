use Rattle.c_preproc.proofs.Lists.{differ}
use Rattle.c_preproc.proofs.texts.are_same_tokens.Goals as goal

pub returns-then-a-b : goal.returns-then-a-b
returns-then-a-b c = differ c.args.bytes.now c.args.a.now c.args.b.now c.if-a-b.true
