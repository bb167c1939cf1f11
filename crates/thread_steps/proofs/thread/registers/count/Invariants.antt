use Rattle.std.proofs.Common.{◌≡◌, ◌+◌, ◌*◌, ◌≤◌}
use Rattle.thread_steps.specs.Registers.{values_in_frame, waiting_count}
use Rattle.thread_steps.proofs.thread.registers.count.Given as goal

abbrev pub invariant-loop-k : goal.invariant-loop-k
invariant-loop-k l = record {
  value : l.total ≡ values_in_frame l.values + waiting_count l.callers.items l.k;
  few : l.total ≤ 256 * (l.k + 1);
}
