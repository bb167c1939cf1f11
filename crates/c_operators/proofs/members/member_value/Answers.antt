-- The table grows by what the member's type needs.
use Rattle.c_expr_rules.proofs.TablesGrown.{value_of_part}
use Rattle.c_expr_rules.proofs.OperandLists.{ok_then}
use Rattle.c_operators.proofs.members.member_value.Goals as goal

pub returns-clause-value : goal.returns-clause-value
returns-clause-value g c =
    rw c.in-Some.is (ok_then c.part_at.result _ _
    (λ t t-is. value_of_part (g.S.Surroundings.told c.args.around.now) c.args.line c.args.state.now c.member_part.new.state c.args.whole c.in-Some.member c.in_ok-part.part t c.in_ok-part.ensures.part c.member_part.ensures.rest t-is)
    c.part_at.ensures)
