-- Four bytes are summed up as the definition does.
use Rattle.std.proofs.Common.{arith}
use Rattle.c_objects.proofs.Words.{four_of}
use Rattle.c_objects.proofs.contents.four_bytes.Goals as goal

pub returns : goal.returns
returns c = omega (arith, four_of c.args.bytes.now c.args.place)
