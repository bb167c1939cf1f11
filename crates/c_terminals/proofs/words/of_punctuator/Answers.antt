-- The table in the code is that of the specification.
use Rattle.c_terminals.specs.Words.{of_punctuator}
use Rattle.c_terminals.proofs.words.of_punctuator.Goals as goal

pub returns : goal.returns
unfolding of_punctuator
returns c = c.look_up.ensures
