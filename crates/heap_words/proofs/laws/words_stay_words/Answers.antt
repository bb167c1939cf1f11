-- The word that an operation changes fits, and the others stay.
use Rattle.heap_words.proofs.Bounds.{words_after-small}
use Rattle.heap_words.proofs.laws.words_stay_words.Goals as goal

pub returns : goal.returns
returns c = words_after-small
