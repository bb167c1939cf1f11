-- Those that are left, and behind them those that were taken.
use Rattle.std.proofs.Common.{◌≡◌, ◌++◌, length}
use Rattle.std.specs.Prelude.{reverse}
use Rattle.c_expr_rules.proofs.arguments.last_first.Given as goal

abbrev pub invariant-values : goal.invariant-values
invariant-values l = l.pending ++ reverse l.reversed.items ≡ l.fn.values

abbrev pub decreases-values : goal.decreases-values
decreases-values l = length l.pending
