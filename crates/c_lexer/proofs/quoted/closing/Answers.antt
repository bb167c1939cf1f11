use Rattle.std.proofs.Common.{arith}
use Rattle.c_lexer.proofs.Quotes.{closing_line, closing_quote, closing_on, closing_end}
use Rattle.c_lexer.proofs.quoted.closing.Goals as goal

pub returns-then-b-eq10-clause-value : goal.returns-then-b-eq10-clause-value
returns-then-b-eq10-clause-value c =
    closing_line c.loop-before.escaped c.args.quote c.args.rest.now c.loop-before.before _ (omega arith) c.if-b-eq10.true c.loop-before.invariant

pub returns-then-closes-clause-value : goal.returns-then-closes-clause-value
returns-then-closes-clause-value c =
    closing_quote c.loop-before.escaped c.args.quote c.args.rest.now c.loop-before.before _ (omega arith) c.if-b-eq10.false c.if-closes.ensures c.loop-before.invariant

pub loop-before-preserved : goal.loop-before-preserved
loop-before-preserved c =
    closing_on c.loop-before.escaped c.escapes-escaped.result c.args.quote c.args.rest.now c.loop-before.before _ (omega arith) c.if-b-eq10.false c.if-closes.ensures c.escapes-escaped.ensures c.loop-before.invariant

pub returns-clause-value : goal.returns-clause-value
returns-clause-value c =
    closing_end c.loop-before.escaped c.args.quote c.args.rest.now c.loop-before.before _ (omega arith) c.loop-before.invariant
