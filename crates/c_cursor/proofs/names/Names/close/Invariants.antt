use Rattle.std.proofs.Common.{◌≡◌, ◌++◌, length}
use Rattle.c_parts.specs.Scopes.{outer_scopes, innermost}
use Rattle.c_cursor.proofs.names.Names.close.Given as goal

-- what was given so far, and what the scope still declares, is what it declared
pub record Given-so-far (l : goal.Live-names) : Type 0 where
  pub outer : outer_scopes l.self ≡ outer_scopes l.initial.self
  pub scope : l.scope ++ innermost l.self ≡ innermost l.initial.self

abbrev pub invariant-names : goal.invariant-names
invariant-names l = Given-so-far l

abbrev pub decreases-names : goal.decreases-names
decreases-names l = length (innermost l.self)
