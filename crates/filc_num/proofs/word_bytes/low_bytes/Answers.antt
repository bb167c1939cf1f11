-- The mask of a width keeps its low bytes.
use Rattle.filc_num.proofs.WordBytes.{low_by_mask}
use Rattle.filc_num.proofs.word_bytes.low_bytes.Goals as goal

pub returns-clause-exact : goal.returns-clause-exact
returns-clause-exact c = low_by_mask c.args.value c.args.width c.requires
