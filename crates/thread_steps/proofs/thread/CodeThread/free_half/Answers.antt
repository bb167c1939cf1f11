-- The register of the block in which the half is freed is that of the frames.
use Rattle.std.proofs.Common.{◌≡◌, ◌<◌, length, sym, ap, ◌∙◌, subst, arith}
use Rattle.whole_thread.specs.Thread.{Thread}
use Rattle.thread_steps.specs.Registers.{register_count, thread_with_freed, block_count}
use Rattle.thread_steps.specs.Stands.{IsThreadOf}
use Rattle.thread_steps.proofs.Freed.{freed_stays}
use Rattle.thread_steps.proofs.Registers.{count_is, thread_freed}
use Rattle.thread_steps.proofs.thread.CodeThread.free_half.Goals as goal

pub index_of-index-requires-clause-there : goal.index_of-index-requires-clause-there
index_of-index-requires-clause-there c =
    let s = c.self.inside in
    let all : block_count s.callers.items s.depth s.values ≡ register_count c.args.self.now =
    count_is s.registers.items c.self.invariant.0 s.callers.items s.depth s.values c.self.invariant.2 ∙ ap (λ (t : Thread). register_count t) c.self.view_is in
    omega (arith, all, c.requires)

pub returns-clause-exact : goal.returns-clause-exact
returns-clause-exact c =
    let s = c.self.inside in
    let rs = s.registers.items in
    let all : block_count s.callers.items s.depth s.values ≡ register_count c.args.self.now =
    count_is rs c.self.invariant.0 s.callers.items s.depth s.values c.self.invariant.2 ∙ ap (λ (t : Thread). register_count t) c.self.view_is in
    let lt : c.args.register < block_count s.callers.items s.depth s.values = omega (arith, all, c.requires) in
    let within : c.index_of-index.result < length rs = omega (arith, c.index_of-index.ensures.within, c.self.invariant.0) in
    thread_freed rs c.self.invariant.0 s.id s.main s.function s.index s.called_at s.granted s.stage
    s.callers.items s.depth s.values c.args.register c.index_of-index.result c.index.result.now c.self.invariant.2 lt c.index_of-index.ensures.value within c.index.ensures
    ∙ ap (λ (t : Thread). thread_with_freed t c.args.register) c.self.view_is

pub returns-clause-stands : goal.returns-clause-stands
returns-clause-stands c = λ code h.
    subst (λ (t : Thread). IsThreadOf code t) (sym (returns-clause-exact c)) (freed_stays code c.args.self.now c.args.register c.requires h)
