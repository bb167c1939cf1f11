-- The next derivation is the first of those that are left.
use Rattle.std.proofs.Common.{◌≤◌, length, sym, ap, ◌∙◌, arith}
use Rattle.std.proofs.Math.ListN.{drop_of_length-le}
use Rattle.c_types.specs.Derivations.{lowest_rule, shape_in}
use Rattle.c_types.proofs.Deriving.{next_rule}
use Rattle.c_types.proofs.derivation.lowest_rule_of.Goals as goal

pub loop-derivation-preserved : goal.loop-derivation-preserved
loop-derivation-preserved c =
    let i = c.loop-derivation.derivation-index in
    next_rule (shape_in c.loop-derivation.shape) (shape_in c.after-shape.result) c.loop-derivation.lowest c.lowest_of-lowest.result c.rule_of.result c.args.derivations.now i c.derivation-item.result
    (omega arith) c.derivation-item.is c.rule_of.ensures c.lowest_of-lowest.ensures c.after-shape.ensures
    ∙ c.loop-derivation.invariant

pub returns : goal.returns
unfolding lowest_rule
returns c =
    let past : length c.args.derivations.now ≤ c.loop-derivation.derivation-index = omega (arith, c.loop-derivation-test.false) in
    ap (λ ds. lowest_rule (shape_in c.loop-derivation.shape) c.loop-derivation.lowest ds) (sym (drop_of_length-le c.args.derivations.now past)) ∙ c.loop-derivation.invariant
