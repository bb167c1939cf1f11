use Rattle.c_syntax.specs.Spelling.{files}
use Rattle.c_syntax.proofs.Claimed.{prefixes-begin, files-read}
use Rattle.c_syntax.proofs.laws.file_prefixes_begin.Goals as goal

pub returns : goal.returns
returns c = prefixes-begin files files-read
