-- The register is the same one, counted from a depth further out.
use Rattle.std.proofs.Common.{◌≡◌, ◌<◌}
use Rattle.thread_steps.specs.Registers.{values_in_frame, block_count, block_index}
use Rattle.thread_steps.proofs.thread.registers.index_of.Given as goal

abbrev pub invariant-loop-have : goal.invariant-loop-have
invariant-loop-have l = record {
  have : l.have ≡ values_in_frame l.values;
  depth : l.depth < 1024;
  there : l.register < block_count l.callers.items l.depth l.values;
  value : block_index l.callers.items l.depth l.values l.register ≡ block_index l.callers.items l.fn.depth l.fn.values l.fn.register;
}

abbrev pub decreases-loop-have : goal.decreases-loop-have
decreases-loop-have l = l.depth
