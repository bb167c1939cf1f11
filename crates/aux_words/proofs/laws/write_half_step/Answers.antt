-- The load of the table word, and the store of the half.
use Rattle.aux_words.proofs.Halves.{word_stays}
use Rattle.aux_words.proofs.Writing.{starts, starts_at_table, steps, keeps}
use Rattle.aux_words.proofs.laws.write_half_step.Goals as goal

pub returns-clause-starts : goal.returns-clause-starts
returns-clause-starts c = starts

pub returns-clause-starts_at_table : goal.returns-clause-starts_at_table
returns-clause-starts_at_table c = starts_at_table

pub returns-clause-steps : goal.returns-clause-steps
returns-clause-steps c = steps

pub returns-clause-keeps : goal.returns-clause-keeps
returns-clause-keeps c = keeps

pub returns-clause-integers : goal.returns-clause-integers
returns-clause-integers c = word_stays
