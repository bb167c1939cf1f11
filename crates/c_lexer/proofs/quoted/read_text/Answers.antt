use Rattle.std.proofs.Common.{arith, ap, ◌∙◌}
use Rattle.c_lexer.specs.Quoted.{values_of}
use Rattle.c_lexer.proofs.Quotes.{text_none, text_on, text_end}
use Rattle.c_lexer.proofs.quoted.read_text.Goals as goal

pub returns-in-None : goal.returns-in-None
returns-in-None c =
    text_none c.body-body.result.now c.loop-at.at c.loop-at.bytes.items _ (omega arith) (rw c.split_at.ensures.back at c.in-None.ensures.value) c.loop-at.invariant.so_far
    ∙ ap (values_of 0) c.body-body.ensures

pub loop-at-preserved : goal.loop-at-preserved
loop-at-preserved c = record {
  within = omega (arith, c.in-Some.ensures.within.1, c.split_at.ensures.back_len);
  so_far = text_on c.body-body.result.now c.loop-at.at c.loop-at.bytes.items _ _ c.in-Some.e (omega arith) c.in-Some.ensures.within.0 (rw c.split_at.ensures.back at c.in-Some.ensures.value) c.in_ok-push-in-Some.ensures.items c.loop-at.invariant.so_far;
}

pub returns : goal.returns
returns c =
    text_end c.body-body.result.now c.loop-at.at c.loop-at.bytes.items _ (omega arith) c.loop-at.invariant.so_far
    ∙ ap (values_of 0) c.body-body.ensures
