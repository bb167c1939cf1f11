-- One activation further out.
use Rattle.std.proofs.Common.{◌≡◌, ◌<◌, ◌≤◌, ◌-◌, ℕ, suc, length, sym, ap, ◌∙◌, subst, arith}
use Rattle.thread_steps.specs.Registers.{values_in_frame, block_count, block_index}
use Rattle.thread_steps.proofs.Registers.{deeper, index_past, rest_there}
use Rattle.thread_steps.proofs.thread.registers.index_of.Goals as goal

pub loop-have-preserved : goal.loop-have-preserved
loop-have-preserved c =
    let waiting = c.args.callers.now.items in
    let depth = c.loop-have.depth in
    let values = c.loop-have.values in
    let register = c.loop-have.register in
    let h = c.loop-have.invariant in
    let n : ℕ = depth - 1 in
    let a = c.index.result.now in
    let past : values_in_frame values ≤ register = omega (arith, h.have, c.loop-have-test.true) in
    let outer : 0 < depth = deeper waiting depth values register h.there past in
    let deep : depth ≡ suc n = omega (arith, outer) in
    let lt : n < length waiting = omega (arith, h.depth, c.requires.callers) in
    let left : register - c.loop-have.have ≡ register - values_in_frame values = ap (λ (m : ℕ). register - m) h.have in
    record {
      have = c.fewer-have-in-loop-have.ensures;
      depth = omega (arith, h.depth);
      there = subst (λ (m : ℕ). m < block_count waiting n a.values) (sym left) (rest_there waiting depth values register n a deep past lt c.index.ensures h.there);
      value = ap (λ (m : ℕ). block_index waiting n a.values m) left ∙ index_past waiting depth values register n a deep past lt c.index.ensures ∙ h.value;
    }
