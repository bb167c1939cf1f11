use Rattle.std.proofs.Common.{arith, below_more, sym}
use Rattle.c_lexer.specs.Classes.{is_number_byte}
use Rattle.c_lexer.proofs.Runs.{run_stops, run_ends}
use Rattle.c_lexer.proofs.front.number_length.Goals as goal

pub returns-then-not-is_number_byte-clause-value : goal.returns-then-not-is_number_byte-clause-value
returns-then-not-is_number_byte-clause-value c = run_stops is_number_byte c.args.text.now c.loop-i.i (omega arith) c.loop-i.invariant (sym c.if-not-is_number_byte.ensures)

pub loop-i-preserved : goal.loop-i-preserved
loop-i-preserved c = below_more _ _ c.loop-i.invariant (sym c.if-not-is_number_byte.ensures)

pub returns-clause-value : goal.returns-clause-value
returns-clause-value c = run_ends is_number_byte c.args.text.now c.loop-i.i (omega arith) (omega arith) c.loop-i.invariant
