use Rattle.whole_code.specs.Plain.{plain_code}
use Rattle.thread_steps.specs.Stands.{IsThreadOf}
use Rattle.thread_tests.proofs.worked.a_thread_goes_to_its_exit.Given as goal

abbrev pub invariant-loop-name : goal.invariant-loop-name
invariant-loop-name g l = IsThreadOf (plain_code l.code-inside.functions.items l.code-inside.statics.items l.code-inside.main) l.thread
