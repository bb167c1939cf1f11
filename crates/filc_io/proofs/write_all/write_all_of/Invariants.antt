-- The sink took the first `count` bytes so far, and its count of faults never fell.
use Rattle.std.proofs.Common.{length, ◌-◌, ◌≡◌, ◌≤◌, take}
use Rattle.filc_io.specs.Outside.{append}
use Rattle.filc_io.proofs.write_all.write_all_of.Given as goal

abbrev pub invariant-loop-count : goal.invariant-loop-count
invariant-loop-count g l = record {
  part : l.count ≤ length l.bytes;
  taken : (g.S.Sink.state l.sink).taken ≡ append (g.S.Sink.state l.initial.sink).taken (take l.count l.bytes);
  never_falls : (g.S.Sink.state l.initial.sink).faults ≤ (g.S.Sink.state l.sink).faults;
}

abbrev pub decreases-loop-count : goal.decreases-loop-count
decreases-loop-count g l = length l.bytes - l.count
