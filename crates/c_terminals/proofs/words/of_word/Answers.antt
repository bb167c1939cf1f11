-- The table in the code is that of the specification.
use Rattle.c_terminals.specs.Words.{of_word}
use Rattle.c_terminals.proofs.words.of_word.Goals as goal

pub returns : goal.returns
unfolding of_word
returns c = c.look_up.ensures
