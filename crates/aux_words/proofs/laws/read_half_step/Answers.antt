-- The load of the table word, and that of the half.
use Rattle.aux_words.proofs.Halves.{starts, keeps}
use Rattle.aux_words.proofs.Reading.{steps}
use Rattle.aux_words.proofs.laws.read_half_step.Goals as goal

pub returns-clause-starts : goal.returns-clause-starts
returns-clause-starts c = starts

pub returns-clause-steps : goal.returns-clause-steps
returns-clause-steps c = steps

pub returns-clause-keeps : goal.returns-clause-keeps
returns-clause-keeps c = keeps
