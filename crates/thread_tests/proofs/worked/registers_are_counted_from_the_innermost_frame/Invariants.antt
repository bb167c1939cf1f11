use Rattle.whole_code.specs.Plain.{plain_code}
use Rattle.thread_steps.specs.Stands.{IsThreadOf}
use Rattle.thread_tests.proofs.worked.registers_are_counted_from_the_innermost_frame.Given as goal

abbrev pub invariant-loop-instruction : goal.invariant-loop-instruction
invariant-loop-instruction g l = IsThreadOf (plain_code l.code-inside.functions.items l.code-inside.statics.items l.code-inside.main) l.thread

abbrev pub invariant-loop-answer : goal.invariant-loop-answer
invariant-loop-answer g l = IsThreadOf (plain_code l.code-inside.functions.items l.code-inside.statics.items l.code-inside.main) l.thread
