-- A register of the innermost frame is one of the block.
use Rattle.std.proofs.Common.{◌<◌, ◌+◌, length, sym, ap, ◌∙◌, subst, arith}
use Rattle.whole_thread.specs.Standing.{register}
use Rattle.whole_thread.specs.Thread.{Thread}
use Rattle.thread_steps.proofs.Blocks.{index_within, frame_read}
use Rattle.thread_steps.proofs.thread.CodeThread.value_of.Goals as goal

pub index-requires : goal.index-requires
index-requires c =
    let s = c.self.inside in
    let within : s.base + c.args.r < length s.registers.items =
    index_within s.registers.items s.depth s.values s.base c.args.r c.self.invariant.0 c.self.invariant.2 c.self.invariant.3
    (subst (λ (t : Thread). c.args.r < length t.at.frame.registers) (sym c.self.view_is) c.requires) in
    omega (arith, within, s.registers.ok.0)

pub returns : goal.returns
returns c =
    let s = c.self.inside in
    frame_read s.registers.items s.depth s.values s.base c.args.r _ c.self.invariant.0 c.self.invariant.2 c.self.invariant.3
    (subst (λ (t : Thread). c.args.r < length t.at.frame.registers) (sym c.self.view_is) c.requires) c.index.ensures
    ∙ ap (λ (t : Thread). register t.at c.args.r) c.self.view_is
