use Rattle.std.proofs.Common.{◌≡◌, length}
use Rattle.c_preproc.specs.Expansion.{decided_of}
use Rattle.c_preproc.proofs.Decided.{behind}
use Rattle.c_preproc.proofs.condition.decide.Given as goal

abbrev pub invariant-loop-token : goal.invariant-loop-token
invariant-loop-token l = behind l.decided.items (decided_of l.macros 0 l.rest) ≡ decided_of l.macros 0 l.tokens

abbrev pub decreases-loop-token : goal.decreases-loop-token
decreases-loop-token l = length l.rest
