use Rattle.c_syntax.specs.Spelling.{files}
use Rattle.c_syntax.proofs.Claimed.{spelled-begin, files-read}
use Rattle.c_syntax.proofs.laws.files_begin.Goals as goal

pub returns : goal.returns
returns c = spelled-begin files files-read
