use Rattle.std.proofs.Common.{◌≡◌, length}
use Rattle.thread_steps.proofs.thread.CodeThread.new.Given as goal

abbrev pub invariant-loop-register : goal.invariant-loop-register
invariant-loop-register l = length l.registers.items ≡ l._register

abbrev pub invariant-loop-caller : goal.invariant-loop-caller
invariant-loop-caller l = length l.callers.items ≡ l._caller
