-- The trees of the values so far.
use Rattle.std.proofs.Common.{◌≡◌}
use Rattle.c_expr_rules.specs.Calls.{trees_of}
use Rattle.c_calls.proofs.calls.trees_of.Given as goal

abbrev pub invariant-loop-typed : goal.invariant-loop-typed
invariant-loop-typed l = l.trees ≡ trees_of l.yielded
