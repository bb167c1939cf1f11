-- Whether all are orders hangs on those that are left.
use Rattle.std.proofs.Common.{◌≡◌, drop}
use Rattle.c_expr_rules.specs.Calls.{are_orders}
use Rattle.c_calls.proofs.atomic_calls.are_orders.Given as goal

abbrev pub invariant-loop-order : goal.invariant-loop-order
invariant-loop-order l = are_orders (drop l.order-index l.orders) ≡ are_orders l.orders
