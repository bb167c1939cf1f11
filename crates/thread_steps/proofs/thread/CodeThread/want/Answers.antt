-- A thread that has ended wants nothing.
use Rattle.std.proofs.Common.{sym, ◌∙◌}
use Rattle.thread_steps.proofs.Over.{want_over, stands_still}
use Rattle.thread_steps.proofs.thread.CodeThread.want.Goals as goal

pub instruction-i-requires : goal.instruction-i-requires
instruction-i-requires c = stands_still c.args.code.now c.args.self.now c.requires (sym c.is_over.ensures ∙ c.if-is_over.false)

pub returns-then-is_over : goal.returns-then-is_over
returns-then-is_over c = sym (want_over c.args.code.now c.args.self.now (sym c.is_over.ensures ∙ c.if-is_over.true))
