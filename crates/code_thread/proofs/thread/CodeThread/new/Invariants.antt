use Rattle.std.proofs.Common.{◌≡◌, length}
use Rattle.code_thread.proofs.thread.CodeThread.new.Given as goal

abbrev pub invariant-loop-index : goal.invariant-loop-index
invariant-loop-index l = length l.registers.items ≡ l._index
