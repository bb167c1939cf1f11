-- A register more is filled.
use Rattle.std.proofs.Common.{◌≡◌, ℕ, ◌<◌, length, ◌∙◌, arith}
use Rattle.std.specs.Prelude.{slice_set}
use Rattle.std.proofs.lemmas.List.{length-set}
use Rattle.ideal_machine.specs.Values.{value_at}
use Rattle.thread_steps.specs.Passing.{first_register}
use Rattle.thread_steps.proofs.Passing.{value_set_same, value_set_other, all_below}
use Rattle.thread_steps.proofs.thread.begin.start.Goals as goal

pub loop-k-preserved : goal.loop-k-preserved
loop-k-preserved c =
    let rs = c.loop-k.registers.items in
    let k = c.loop-k.k in
    let v = c.first_value.result in
    let inv = c.loop-k.invariant in
    let within : k < length rs = omega (arith, c.requires.values, c.loop-k-test.true, inv.long) in
    record {
      long = length-set rs k v ∙ inv.long;
      filled = all_below (λ (m : ℕ). value_at (slice_set rs k v) m ≡ first_register c.args.argument c.args.given m) k
          (λ m lt. value_set_other rs k m v (λ e. omega (arith, e, lt)) ∙ inv.filled m lt)
          (value_set_same rs k v within ∙ c.first_value.ensures);
    }
