use Rattle.c_syntax.specs.Spelling.{expressions}
use Rattle.c_syntax.proofs.Claimed.{spelled-begin, expressions-read}
use Rattle.c_syntax.proofs.laws.expressions_begin.Goals as goal

pub returns : goal.returns
returns c = spelled-begin expressions expressions-read
