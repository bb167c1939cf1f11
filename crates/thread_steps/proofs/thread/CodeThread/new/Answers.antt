-- A new thread has ended, so no code has more for it.
use Rattle.thread_steps.proofs.Over.{want_over}
use Rattle.thread_steps.proofs.thread.CodeThread.new.Goals as goal

pub returns-clause-stopped : goal.returns-clause-stopped
returns-clause-stopped c = λ code. want_over code c.thread_of.result c.thread_of.ensures
