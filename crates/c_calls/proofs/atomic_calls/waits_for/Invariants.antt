-- The value waits for the operands so far.
use Rattle.std.proofs.Common.{◌≡◌}
use Rattle.c_expr_rules.specs.Calls.{waits_for}
use Rattle.c_calls.proofs.atomic_calls.waits_for.Given as goal

abbrev pub invariant-loop-order : goal.invariant-loop-order
invariant-loop-order l = l.waiting ≡ waits_for l.yielded l.fn.made
