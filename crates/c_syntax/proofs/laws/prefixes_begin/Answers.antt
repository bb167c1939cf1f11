use Rattle.c_syntax.specs.Spelling.{expressions}
use Rattle.c_syntax.proofs.Claimed.{prefixes-begin, expressions-read}
use Rattle.c_syntax.proofs.laws.prefixes_begin.Goals as goal

pub returns : goal.returns
returns c = prefixes-begin expressions expressions-read
