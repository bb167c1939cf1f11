-- The frames of the block have as many as those of the thread.
use Rattle.std.proofs.Common.{ap, ◌∙◌}
use Rattle.whole_thread.specs.Thread.{Thread}
use Rattle.thread_steps.specs.Registers.{register_count}
use Rattle.thread_steps.proofs.Registers.{count_is}
use Rattle.thread_steps.proofs.thread.CodeThread.registers.Goals as goal

pub returns : goal.returns
returns c =
    let s = c.self.inside in
    c.count.ensures ∙ count_is s.registers.items c.self.invariant.0 s.callers.items s.depth s.values c.self.invariant.2
    ∙ ap (λ (t : Thread). register_count t) c.self.view_is
