use Rattle.c_lexer.specs.Classes.{is_number_byte}
use Rattle.c_lexer.proofs.Runs.{IsRun}
use Rattle.c_lexer.proofs.front.number_length.Given as goal

abbrev pub invariant-loop-i : goal.invariant-loop-i
invariant-loop-i l = IsRun is_number_byte l.text l.i
