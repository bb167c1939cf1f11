use Rattle.std.proofs.Common.{◌≡◌, length, take}
use Rattle.std.specs.Prelude.{replicate}
use Rattle.filc_num.specs.declared.registers.TheConstants.{REGISTERS}
use Rattle.ideal_machine.specs.Values.{zero_value}
use Rattle.code_thread.proofs.thread.clear.Given as goal

abbrev pub invariant-loop-index : goal.invariant-loop-index
invariant-loop-index l = record {
  long : length l.registers.items ≡ REGISTERS;
  zeros : take l.index l.registers.items ≡ replicate l.index zero_value;
}
