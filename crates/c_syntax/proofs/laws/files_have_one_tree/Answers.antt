use Rattle.c_syntax.specs.Spelling.{files}
use Rattle.c_syntax.proofs.Claimed.{have-one-tree, files-read}
use Rattle.c_syntax.proofs.laws.files_have_one_tree.Goals as goal

pub returns : goal.returns
returns c = have-one-tree files files-read
