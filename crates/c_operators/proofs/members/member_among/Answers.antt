-- Where none is left, no member has the name.
use Rattle.std.proofs.Common.{sym, ◌∙◌}
use Rattle.std.proofs.lemmas.List.{at_drop_all}
use Rattle.c_expr_rules.specs.Expressions.{member_among}
use Rattle.c_operators.proofs.members.member_among.Goals as goal

pub returns : goal.returns
returns c =
    sym (at_drop_all (λ xs. member_among c.args.name xs) c.args.members.now c.loop-member.member-index c.loop-member-test.false) ∙ c.loop-member.invariant
