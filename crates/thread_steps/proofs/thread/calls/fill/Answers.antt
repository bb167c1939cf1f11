-- A register more is filled, and the others stay.
use Rattle.std.proofs.Common.{◌≡◌, ℕ, ◌+◌, ◌<◌, length, ◌∙◌, arith}
use Rattle.std.proofs.lemmas.List.{length-set}
use Rattle.ideal_machine.specs.Values.{value_at}
use Rattle.thread_steps.specs.Passing.{callee_register}
use Rattle.std.specs.Prelude.{slice_set}
use Rattle.thread_steps.proofs.Passing.{value_set_same, value_set_other, passed_same, all_below}
use Rattle.thread_steps.proofs.thread.calls.fill.Goals as goal

pub loop-k-preserved : goal.loop-k-preserved
loop-k-preserved c =
    let rs = c.loop-k.registers.items in
    let old = c.args.registers.now.items in
    let k = c.loop-k.k in
    let n = c.args.base + 256 + k in
    let v = c.argument_or_zero-value.result in
    let inv = c.loop-k.invariant in
    let within : n < length rs = omega (arith, c.requires.base, c.requires.values, c.loop-k-test.true, inv.long) in
    record {
      long = length-set rs n v ∙ inv.long;
      below = λ m lt. value_set_other rs n m v (λ e. omega (arith, e, lt)) ∙ inv.below m lt;
      filled = all_below (λ (m : ℕ). value_at (slice_set rs n v) (c.args.base + 256 + m) ≡ callee_register old c.args.from c.args.given m) k
          (λ m lt. value_set_other rs n (c.args.base + 256 + m) v (λ e. omega (arith, e, lt)) ∙ inv.filled m lt)
          (value_set_same rs n v within ∙ c.argument_or_zero-value.ensures
          ∙ passed_same rs old c.args.from c.args.given k (λ lt. inv.below (c.args.from + k) (c.requires.arguments k lt)));
    }
