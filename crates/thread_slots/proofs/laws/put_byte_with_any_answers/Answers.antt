-- One exchange wins, or none; and where none does, each word from the hint on is found taken.
use Rattle.std.proofs.Common.{Ok, Err}
use Rattle.filc_num.specs.declared.reason.Reason.TheVariants.{OutputLimit}
use Rattle.thread_slots.proofs.PutAnswers.{finds_taken}
use Rattle.thread_slots.proofs.PutsOnce.{puts}
use Rattle.thread_slots.proofs.laws.put_byte_with_any_answers.Goals as goal

pub returns-clause-puts_once : goal.returns-clause-puts_once
returns-clause-puts_once c slots out_words byte answers told = puts slots out_words byte answers (Ok tt) told

pub returns-clause-puts_none : goal.returns-clause-puts_none
returns-clause-puts_none c slots out_words byte answers told = puts slots out_words byte answers (Err OutputLimit) told

pub returns-clause-found_taken : goal.returns-clause-found_taken
returns-clause-found_taken c = finds_taken
