-- Two operands have a kind in which operations are computed.
use Rattle.c_expr_rules.proofs.CommonKinds.{one-kind}
use Rattle.c_expr_rules.proofs.kinds.common_kind.Goals as goal

pub returns-clause-promoted : goal.returns-clause-promoted
returns-clause-promoted c = rw (c.of_promoted.ensures, c.promote-a.ensures.kind, c.promote-b.ensures.kind) (one-kind c.args.a c.args.b).1
