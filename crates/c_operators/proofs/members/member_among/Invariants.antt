-- The member among those that are left is that among all.
use Rattle.std.proofs.Common.{◌≡◌, drop}
use Rattle.c_expr_rules.specs.Expressions.{member_among}
use Rattle.c_operators.proofs.members.member_among.Given as goal

abbrev pub invariant-loop-member : goal.invariant-loop-member
invariant-loop-member l = member_among l.name (drop l.member-index l.members) ≡ member_among l.name l.members
