use Rattle.std.proofs.Common.{◌≡◌, ℕ, ◌<◌, length}
use Rattle.ideal_machine.specs.Values.{value_at}
use Rattle.thread_steps.specs.Passing.{first_register}
use Rattle.thread_steps.proofs.thread.begin.start.Given as goal

abbrev pub invariant-loop-k : goal.invariant-loop-k
invariant-loop-k l = record {
  long : length l.registers.items ≡ 262144;
  filled : (n : ℕ) → n < l.k → value_at l.registers.items n ≡ first_register l.argument l.given n;
}
