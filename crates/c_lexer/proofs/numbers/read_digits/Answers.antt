use Rattle.std.proofs.Common.{◌≡◌, ◌<◌, ◌≤◌, get_or, length, arith, below_more, ◌∙◌}
use Rattle.std.specs.Char.{digit_value}
use Rattle.c_lexer.proofs.Digits.{value_step, no_digit, digit_below, digits_end, value_end}
use Rattle.c_lexer.proofs.numbers.read_digits.Goals as goal

pub returns-then-digit-base-clause-count : goal.returns-then-digit-base-clause-count
returns-then-digit-base-clause-count c =
    let within : c.loop-count.count ≤ length c.args.text.now = omega arith in
    let is : c.from-digit.result ≡ digit_value (get_or c.args.text.now c.loop-count.count 0) = cc in
    let stops = no_digit c.args.base (get_or c.args.text.now c.loop-count.count 0) c.from-digit.result is c.if-digit-base.true in
    digits_end c.args.base c.args.text.now c.loop-count.count within c.loop-count.invariant.digits (λ _. stops)

pub returns-then-digit-base-clause-value : goal.returns-then-digit-base-clause-value
returns-then-digit-base-clause-value c =
    value_end _ _ _ _ (returns-then-digit-base-clause-count c) c.loop-count.invariant.so_far

pub loop-count-preserved : goal.loop-count-preserved
loop-count-preserved c =
    let is : c.from-digit.result ≡ digit_value (get_or c.args.text.now c.loop-count.count 0) = cc in
    let below : c.from-digit.result < c.args.base = omega arith in
    record {
      digits = below_more _ _ c.loop-count.invariant.digits (digit_below c.args.base (get_or c.args.text.now c.loop-count.count 0) c.from-digit.result is below);
      so_far = value_step c.args.base c.args.text.now c.loop-count.count c.from-digit.result c.loop-count.value c.with_digit-value.result c.requires.low (omega arith) is c.loop-count.invariant.so_far c.with_digit-value.ensures;
    }

pub returns-clause-count : goal.returns-clause-count
returns-clause-count c =
    let text = c.args.text.now in
    digits_end c.args.base text (length text) (omega arith) (λ k below. c.loop-count.invariant.digits k (omega arith)) (λ h. absurd (omega arith))

pub returns-clause-value : goal.returns-clause-value
returns-clause-value c =
    let all : c.loop-count.count ≡ length c.args.text.now = omega arith in
    value_end _ _ _ _ (all ∙ returns-clause-count c) c.loop-count.invariant.so_far
