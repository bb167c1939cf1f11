use Rattle.std.proofs.Common.{◌≡◌, ◌==◌, not, arith, below_more, true, false, get_or, ap, eq-eqb}
use Rattle.std.proofs.lemmas.Bool.{ne_eqb}
use Rattle.c_lexer.specs.Classes.{line_feed}
use Rattle.c_lexer.proofs.Runs.{run_stops, run_ends}
use Rattle.c_lexer.proofs.front.line_length.Goals as goal

pub returns-then-b-eq10-clause-value : goal.returns-then-b-eq10-clause-value
returns-then-b-eq10-clause-value c =
    let is : (get_or c.args.text.now c.loop-i.i 0 == line_feed) ≡ true = eq-eqb (get_or c.args.text.now c.loop-i.i 0) line_feed c.if-b-eq10.true in
    run_stops (λ b. not (b == line_feed)) c.args.text.now c.loop-i.i (omega arith) c.loop-i.invariant (ap not is)

pub loop-i-preserved : goal.loop-i-preserved
loop-i-preserved c =
    let is : (get_or c.args.text.now c.loop-i.i 0 == line_feed) ≡ false = ne_eqb (get_or c.args.text.now c.loop-i.i 0) line_feed c.if-b-eq10.false in
    below_more _ _ c.loop-i.invariant (ap not is)

pub returns-clause-value : goal.returns-clause-value
returns-clause-value c = run_ends (λ b. not (b == line_feed)) c.args.text.now c.loop-i.i (omega arith) (omega arith) c.loop-i.invariant
