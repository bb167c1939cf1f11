use Rattle.std.proofs.Common.{◌≡◌, length}
use Rattle.c_parts.specs.Scopes.{outer_scopes, innermost}
use Rattle.c_cursor.proofs.names.Names.leave.Given as goal

abbrev pub invariant-names : goal.invariant-names
invariant-names l = outer_scopes l.self ≡ outer_scopes l.initial.self

abbrev pub decreases-names : goal.decreases-names
decreases-names l = length (innermost l.self)
