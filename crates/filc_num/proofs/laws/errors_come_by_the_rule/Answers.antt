-- When division and the shifts have no result.
use Rattle.filc_num.proofs.Outcomes.{quotient_fails, remainder_fails, left_shift_fails, right_shift_fails}
use Rattle.filc_num.proofs.laws.errors_come_by_the_rule.Goals as goal

pub returns-clause-quotient : goal.returns-clause-quotient
returns-clause-quotient c = quotient_fails c.args.ty c.args.a c.args.b c.requires.left c.requires.right

pub returns-clause-remainder : goal.returns-clause-remainder
returns-clause-remainder c = remainder_fails c.args.ty c.args.a c.args.b c.requires.left c.requires.right

pub returns-clause-left_shift : goal.returns-clause-left_shift
returns-clause-left_shift c = left_shift_fails c.args.ty c.args.a c.args.b

pub returns-clause-right_shift : goal.returns-clause-right_shift
returns-clause-right_shift c = right_shift_fails c.args.ty c.args.a c.args.b
