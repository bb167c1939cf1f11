-- A thread begins before the first instruction of its function, with a frame of zeros.
use Rattle.std.proofs.Common.{length, ap, ◌∙◌}
use Rattle.code_thread.proofs.Threads.{arrives_at_stage, first_inside, first_long}
use Rattle.code_thread.proofs.thread.CodeThread.begin.Goals as goal

pub arrive-self-inside-requires-clause-registers : goal.arrive-self-inside-requires-clause-registers
arrive-self-inside-requires-clause-registers c = ap length c.clear.ensures ∙ first_long

pub invariant_of-self : goal.invariant_of-self
invariant_of-self c = ap length c.clear.ensures ∙ first_long

pub returns-clause-of_code : goal.returns-clause-of_code
returns-clause-of_code c =
    arrives_at_stage c.args.code.now _ _ c.function.ensures.value c.function.ensures.well_formed
    (first_inside _ c.function.ensures.well_formed.ends) (ap length c.clear.ensures ∙ first_long) c.arrive-self-inside.ensures
