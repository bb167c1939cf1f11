-- A register of the frames is one of the block.
use Rattle.std.proofs.Common.{◌≡◌, ◌<◌, length, ap, ◌∙◌, arith}
use Rattle.whole_thread.specs.Thread.{Thread}
use Rattle.thread_steps.specs.Registers.{register_count, register_of, block_count}
use Rattle.thread_steps.proofs.Registers.{count_is, value_read}
use Rattle.thread_steps.proofs.thread.CodeThread.register_of.Goals as goal

pub index_of-index-requires-clause-there : goal.index_of-index-requires-clause-there
index_of-index-requires-clause-there c =
    let s = c.self.inside in
    let all : block_count s.callers.items s.depth s.values ≡ register_count c.args.self.now =
    count_is s.registers.items c.self.invariant.0 s.callers.items s.depth s.values c.self.invariant.2 ∙ ap (λ (t : Thread). register_count t) c.self.view_is in
    omega (arith, all, c.requires)

pub returns : goal.returns
returns c =
    let s = c.self.inside in
    let rs = s.registers.items in
    let all : block_count s.callers.items s.depth s.values ≡ register_count c.args.self.now =
    count_is rs c.self.invariant.0 s.callers.items s.depth s.values c.self.invariant.2 ∙ ap (λ (t : Thread). register_count t) c.self.view_is in
    let lt : c.args.register < block_count s.callers.items s.depth s.values = omega (arith, all, c.requires) in
    let within : c.index_of-index.result < length rs = omega (arith, c.index_of-index.ensures.within, c.self.invariant.0) in
    value_read rs c.self.invariant.0 s.callers.items s.depth s.values c.args.register c.index_of-index.result _ c.self.invariant.2 lt c.index_of-index.ensures.value within c.index.ensures
    ∙ ap (λ (t : Thread). register_of t c.args.register) c.self.view_is
