use Rattle.c_lexer.specs.Classes.{is_word}
use Rattle.c_lexer.proofs.Runs.{IsRun}
use Rattle.c_lexer.proofs.front.word_length.Given as goal

abbrev pub invariant-loop-i : goal.invariant-loop-i
invariant-loop-i l = IsRun is_word l.text l.i
