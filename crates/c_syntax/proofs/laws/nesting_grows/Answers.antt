use Rattle.c_syntax.specs.Spelling.{expressions}
use Rattle.c_syntax.proofs.Claimed.{nesting-grows, expressions-read}
use Rattle.c_syntax.proofs.laws.nesting_grows.Goals as goal

pub returns : goal.returns
returns c = nesting-grows expressions expressions-read
