-- The next parameter is the first of those that are left.
use Rattle.std.proofs.Common.{◌≤◌, ◌+◌, length, drop, sym, ap, ◌∙◌, arith}
use Rattle.std.proofs.Math.ListN.{drop_of_length-le}
use Rattle.c_types.specs.Derivations.{lowest}
use Rattle.c_declarators.specs.Parameters.{lowest_rule}
use Rattle.c_declarators.proofs.Outcomes.{left_with}
use Rattle.c_declarators.proofs.parameters.lowest_rule_of.Goals as goal

pub loop-parameter-preserved : goal.loop-parameter-preserved
unfolding lowest_rule
loop-parameter-preserved c =
    let i = c.loop-parameter.parameter-index in
    let table = c.args.types.now in
    let rest = drop (i + 1) c.args.parameters.now in
    ap (λ r. lowest_rule table r rest) (c.lowest_of-lowest.ensures ∙ ap (lowest c.loop-parameter.lowest) c.rule_of_parameter.ensures)
    ∙ sym (ap (lowest_rule table c.loop-parameter.lowest) (left_with c.args.parameters.now i _ c.loop-parameter-test.true))
    ∙ c.loop-parameter.invariant

pub returns : goal.returns
unfolding lowest_rule
returns c =
    let past : length c.args.parameters.now ≤ c.loop-parameter.parameter-index = omega (arith, c.loop-parameter-test.false) in
    ap (λ ps. lowest_rule c.args.types.now c.loop-parameter.lowest ps) (sym (drop_of_length-le c.args.parameters.now past)) ∙ c.loop-parameter.invariant
