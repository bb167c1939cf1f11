-- Eight bytes are four and four.
use Rattle.std.proofs.Common.{arith}
use Rattle.c_objects.proofs.Words.{eight_of}
use Rattle.c_objects.proofs.contents.word_of.Goals as goal

pub returns : goal.returns
returns c = omega (arith, eight_of c.args.bytes.now c.args.place)
