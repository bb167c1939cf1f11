use Rattle.std.proofs.Common.{arith, ◌∙◌}
use Rattle.c_lexer.proofs.Quotes.{count_none, count_on, count_end}
use Rattle.c_lexer.proofs.quoted.count_values.Goals as goal

pub returns-in_err-e : goal.returns-in_err-e
returns-in_err-e c =
    c.from_residual.ensures ∙ count_none c.args.body.now c.loop-at.at c.loop-at.count _ (omega arith) (rw c.split_at.ensures.back at c.in_err-e.ensures.value) c.loop-at.invariant.so_far

pub loop-at-preserved : goal.loop-at-preserved
loop-at-preserved c = record {
  within = omega (arith, c.in_ok-e.ensures.within.1, c.split_at.ensures.back_len);
  fewer = omega (arith, c.in_ok-e.ensures.within.0);
  so_far = count_on c.args.body.now c.loop-at.at c.loop-at.count _ c.in_ok-e.e (omega arith) c.in_ok-e.ensures.within.0 (rw c.split_at.ensures.back at c.in_ok-e.ensures.value) c.loop-at.invariant.so_far;
}

pub returns : goal.returns
returns c = count_end c.args.body.now c.loop-at.at c.loop-at.count _ (omega arith) c.loop-at.invariant.so_far
