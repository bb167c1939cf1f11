-- After an instruction the thread is at the next index of its function.
use Rattle.std.proofs.Common.{sym, ◌∙◌, subst}
use Rattle.code_thread.specs.Thread.{Thread, IsThreadOf}
use Rattle.code_thread.proofs.Threads.{arrives_at_stage, index_after_step}
use Rattle.code_thread.proofs.thread.CodeThread.step.Goals as goal

pub arrive-self-inside-requires-clause-index : goal.arrive-self-inside-requires-clause-index
arrive-self-inside-requires-clause-index c =
    let code = c.args.code.now in
    let h = subst (λ (t : Thread). IsThreadOf code t) (sym c.self.view_is) c.requires.of_code in
    let next = index_after_step code _ _ h c.function-function.ensures.value c.in-Acts.op c.in-Acts.line c.in-Acts.is in
    let here = c.in-Ok.ensures.done.1 in
    rw here next

pub returns-in-Ok-clause-of_code : goal.returns-in-Ok-clause-of_code
returns-in-Ok-clause-of_code c =
    let code = c.args.code.now in
    let h = subst (λ (t : Thread). IsThreadOf code t) (sym c.self.view_is) c.requires.of_code in
    let next = index_after_step code _ _ h c.function-function.ensures.value c.in-Acts.op c.in-Acts.line c.in-Acts.is in
    let here = c.in-Ok.ensures.done.1 in
    arrives_at_stage code _ _ c.function-function.ensures.value c.function-function.ensures.well_formed (rw here next)
    (c.in-Ok.ensures.length ∙ c.self.invariant) c.arrive-self-inside.ensures
