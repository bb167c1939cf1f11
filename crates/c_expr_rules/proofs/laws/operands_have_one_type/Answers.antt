use Rattle.c_expr_rules.proofs.CommonKinds.{one-kind}
use Rattle.c_expr_rules.proofs.laws.operands_have_one_type.Goals as goal

pub returns : goal.returns
returns c = λ x y. one-kind x y
