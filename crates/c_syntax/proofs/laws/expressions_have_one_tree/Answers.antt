use Rattle.c_syntax.specs.Spelling.{expressions}
use Rattle.c_syntax.proofs.Claimed.{have-one-tree, expressions-read}
use Rattle.c_syntax.proofs.laws.expressions_have_one_tree.Goals as goal

pub returns : goal.returns
returns c = have-one-tree expressions expressions-read
