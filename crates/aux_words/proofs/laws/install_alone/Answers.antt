-- The exchange.
use Rattle.aux_words.proofs.Installing.{ends}
use Rattle.aux_words.proofs.laws.install_alone.Goals as goal

pub returns : goal.returns
returns c = ends
