-- The names from the index on are declared, the last first.
use Rattle.std.proofs.Common.{◌≡◌, drop}
use Rattle.c_cursor.specs.Input.{in_state}
use Rattle.c_parts.specs.Scopes.{entered}
use Rattle.c_file_parser.proofs.scopes.enter_with.Given as goal

abbrev pub invariant-loop-index : goal.invariant-loop-index
invariant-loop-index l = l.cursor ≡ in_state l.fn.cursor (entered (drop l.index l.scope) l.fn.cursor.state)
