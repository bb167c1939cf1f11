-- After a byte was put out the thread is at the next index of its function.
use Rattle.std.proofs.Common.{sym, subst}
use Rattle.code_thread.specs.Thread.{Thread, IsThreadOf}
use Rattle.code_thread.proofs.Threads.{arrives_at_stage, index_after_out}
use Rattle.code_thread.proofs.thread.CodeThread.answer.Goals as goal

pub arrive-self-inside-requires-clause-index : goal.arrive-self-inside-requires-clause-index
arrive-self-inside-requires-clause-index c =
    let code = c.args.code.now in
    let h = subst (λ (t : Thread). IsThreadOf code t) (sym c.self.view_is) c.requires.of_code in
    index_after_out code _ _ h c.function-function.ensures.value _ _ c.in-PutsOut-Done.is-0

pub returns-in-PutsOut-Done-clause-of_code : goal.returns-in-PutsOut-Done-clause-of_code
returns-in-PutsOut-Done-clause-of_code c =
    let code = c.args.code.now in
    let h = subst (λ (t : Thread). IsThreadOf code t) (sym c.self.view_is) c.requires.of_code in
    let next = index_after_out code _ _ h c.function-function.ensures.value _ _ c.in-PutsOut-Done.is-0 in
    arrives_at_stage code _ _ c.function-function.ensures.value c.function-function.ensures.well_formed next c.self.invariant c.arrive-self-inside.ensures
