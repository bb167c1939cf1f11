use Rattle.std.proofs.Common.{length}
use Rattle.form_reader.proofs.Declaring.{DeclaredSoFar}
use Rattle.form_reader.proofs.declared.declarations.Given as goal

abbrev pub invariant-loop-tokens : goal.invariant-loop-tokens
invariant-loop-tokens l = DeclaredSoFar l.fn.tokens l.tokens l.declared

abbrev pub decreases-loop-tokens : goal.decreases-loop-tokens
decreases-loop-tokens l = length l.tokens
