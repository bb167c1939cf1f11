-- A further operand is waited for last.
use Rattle.std.proofs.Common.{[], ◌∷◌, sym, ap, ◌∙◌}
use Rattle.c_tree.specs.declared.operation.Operation.TheVariants as op
use Rattle.c_expr_rules.specs.TypedExpressions.{tree_of, with_operation}
use Rattle.c_expr_rules.specs.declared.made.Made.{Made}
use Rattle.c_expr_rules.proofs.OperandLists.{waits_more}
use Rattle.c_calls.proofs.atomic_calls.waits_for.Goals as goal

pub loop-order-preserved : goal.loop-order-preserved
loop-order-preserved c =
    c.in_ok-waiting.ensures
    ∙ ap (λ (m : Made). with_operation m.line (op.Advance 0) (tree_of c.in-Some.order.made ∷ []) m) c.loop-order.invariant
    ∙ sym (waits_more c.loop-order.yielded c.in-Some.order c.args.made)
