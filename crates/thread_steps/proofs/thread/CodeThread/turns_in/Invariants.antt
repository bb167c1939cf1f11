-- The thread stands before an instruction of the function, and the turns so far lead to it.
use Rattle.std.proofs.Common.{◌≡◌, Some, true, slice_get}
use Rattle.whole_code.specs.Plain.{plain_function}
use Rattle.whole_thread.specs.Thread.{stage_of}
use Rattle.thread_steps.specs.Stands.{StandsIn}
use Rattle.thread_steps.specs.Turns.{is_before, Leads}
use Rattle.thread_steps.proofs.thread.CodeThread.turns_in.Given as goal

abbrev pub invariant-loop-done : goal.invariant-loop-done
invariant-loop-done l = record {
  stands : StandsIn l.code l.self;
  before : is_before (stage_of l.self) ≡ true;
  function : slice_get l.code.functions l.self.at.frame.function ≡ Some (plain_function l.f);
  leads : Leads l.code l.places l.done l.fn.self l.self;
}
