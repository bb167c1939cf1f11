use Rattle.c_syntax.specs.Spelling.{files}
use Rattle.c_syntax.proofs.Claimed.{nesting-grows, files-read}
use Rattle.c_syntax.proofs.laws.file_nesting_grows.Goals as goal

pub returns : goal.returns
returns c = nesting-grows files files-read
