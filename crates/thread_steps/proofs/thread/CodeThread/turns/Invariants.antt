-- The turns so far lead to the thread.
use Rattle.std.proofs.Common.{◌≤◌, ◌-◌}
use Rattle.thread_steps.specs.Stands.{IsThreadOf}
use Rattle.thread_steps.specs.Turns.{Leads}
use Rattle.thread_steps.proofs.thread.CodeThread.turns.Given as goal

abbrev pub invariant-loop-done : goal.invariant-loop-done
invariant-loop-done l = record {
  within : l.done ≤ l.most;
  stands : IsThreadOf l.code l.self;
  leads : Leads l.code l.places l.done l.fn.self l.self;
}

abbrev pub decreases-loop-done : goal.decreases-loop-done
decreases-loop-done l = l.most - l.done
