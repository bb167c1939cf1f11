use Rattle.std.proofs.Common.{◌==◌, not}
use Rattle.c_lexer.specs.Classes.{line_feed}
use Rattle.c_lexer.proofs.Runs.{IsRun}
use Rattle.c_lexer.proofs.front.line_length.Given as goal

abbrev pub invariant-loop-i : goal.invariant-loop-i
invariant-loop-i l = IsRun (λ b. not (b == line_feed)) l.text l.i
