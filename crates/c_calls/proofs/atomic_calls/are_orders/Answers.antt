-- Where none is left, all are orders.
use Rattle.std.proofs.Common.{sym, ◌∙◌}
use Rattle.std.proofs.lemmas.List.{at_drop_all}
use Rattle.c_expr_rules.specs.Calls.{are_orders}
use Rattle.c_calls.proofs.atomic_calls.are_orders.Goals as goal

pub returns : goal.returns
returns c = sym (at_drop_all are_orders c.args.orders.now c.loop-order.order-index c.loop-order-test.false) ∙ c.loop-order.invariant
