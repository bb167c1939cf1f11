use Rattle.std.proofs.Common.{◌≡◌, ◌≤◌, ◌-◌}
use Rattle.std.specs.Vec.{vec_capacity}
use Rattle.single_thread.specs.Alone.{observable_of_run}
use Rattle.single_thread.specs.Turns.{IsReady, seen_from}
use Rattle.single_thread.proofs.runner.run.Given as goal

-- the outside will have seen in the turns that are left what it sees of the whole run
abbrev pub invariant-loop-turn : goal.invariant-loop-turn
invariant-loop-turn l = record {
  ready : IsReady l.code l.thread;
  room : 1048576 ≤ vec_capacity l.out;
  seen : seen_from l.code (l.turns - l._turn) l.thread l.out.items ≡ observable_of_run l.turns l.code;
}
