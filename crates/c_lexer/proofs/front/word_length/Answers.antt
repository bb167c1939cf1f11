use Rattle.std.proofs.Common.{arith, below_more, sym}
use Rattle.c_lexer.specs.Classes.{is_word}
use Rattle.c_lexer.proofs.Runs.{run_stops, run_ends}
use Rattle.c_lexer.proofs.front.word_length.Goals as goal

pub returns-then-not-is_word-clause-value : goal.returns-then-not-is_word-clause-value
returns-then-not-is_word-clause-value c = run_stops is_word c.args.text.now c.loop-i.i (omega arith) c.loop-i.invariant (sym c.if-not-is_word.ensures)

pub loop-i-preserved : goal.loop-i-preserved
loop-i-preserved c = below_more _ _ c.loop-i.invariant (sym c.if-not-is_word.ensures)

pub returns-clause-value : goal.returns-clause-value
returns-clause-value c = run_ends is_word c.args.text.now c.loop-i.i (omega arith) (omega arith) c.loop-i.invariant
