use Rattle.std.proofs.Common.{◌≡◌, ℕ, ◌+◌, ◌<◌, length}
use Rattle.ideal_machine.specs.Values.{value_at}
use Rattle.thread_steps.specs.Passing.{callee_register}
use Rattle.thread_steps.proofs.thread.calls.fill.Given as goal

abbrev pub invariant-loop-k : goal.invariant-loop-k
invariant-loop-k l = record {
  long : length l.registers.items ≡ 262144;
  below : (n : ℕ) → n < l.base + 256 → value_at l.registers.items n ≡ value_at l.initial.registers.items n;
  filled : (n : ℕ) → n < l.k → value_at l.registers.items (l.base + 256 + n) ≡ callee_register l.initial.registers.items l.from l.given n;
}
