-- The next qualifier is the first of those that are left.
use Rattle.std.proofs.Common.{◌≤◌, ◌+◌, length, drop, sym, ap, ◌∙◌, arith}
use Rattle.std.specs.Prelude.{bit_or}
use Rattle.std.proofs.Math.ListN.{drop_of_length-le}
use Rattle.c_specifiers.specs.QualifierSets.{with_qualifiers}
use Rattle.c_specifiers.proofs.Walks.{left_with}
use Rattle.c_specifiers.proofs.qualifiers.qualifiers_of.Goals as goal

pub loop-qualifier-preserved : goal.loop-qualifier-preserved
unfolding with_qualifiers
loop-qualifier-preserved c =
    let i = c.loop-qualifier.qualifier-index in
    let rest = drop (i + 1) c.args.list.now in
    ap (λ s. with_qualifiers s rest) (c.union-set.ensures tt ∙ ap (bit_or c.loop-qualifier.set.0) c.set_of.ensures)
    ∙ sym (ap (with_qualifiers c.loop-qualifier.set.0) (left_with c.args.list.now i _ c.loop-qualifier-test.true))
    ∙ c.loop-qualifier.invariant

pub returns : goal.returns
unfolding with_qualifiers
returns c =
    let past : length c.args.list.now ≤ c.loop-qualifier.qualifier-index = omega (arith, c.loop-qualifier-test.false) in
    ap (λ qs. with_qualifiers c.loop-qualifier.set.0 qs) (sym (drop_of_length-le c.args.list.now past)) ∙ c.loop-qualifier.invariant
