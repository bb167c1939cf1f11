use Rattle.std.proofs.Common.{arith}
use Rattle.form_reader.proofs.Digits.{value-small, value-more}
use Rattle.form_reader.proofs.form.value_of.Goals as goal

pub overflow_mul-value : goal.overflow_mul-value
overflow_mul-value c =
    let small = value-small c.args.digits.now c.loop-digit.digit-index c.requires in
    omega (arith, c.loop-digit.invariant)

pub overflow_add-value : goal.overflow_add-value
overflow_add-value c =
    let small = value-small c.args.digits.now c.loop-digit.digit-index c.requires in
    omega (arith, c.loop-digit.invariant, c.type_inv.digits c.loop-digit.digit-index)

pub loop-digit-preserved : goal.loop-digit-preserved
loop-digit-preserved c =
    let more = value-more c.args.digits.now c.loop-digit.digit-index c.requires c.loop-digit-test.true in
    omega (arith, more, c.loop-digit.invariant, c.from.ensures)
