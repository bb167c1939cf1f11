use Rattle.std.proofs.Common.{◌-◌, ◌≤◌}
use Rattle.c_lexer.specs.Cursor.{IsAt}
use Rattle.c_lexer.proofs.source.Cursor.forward.Given as goal

abbrev pub invariant-loop-cursor : goal.invariant-loop-cursor
invariant-loop-cursor l = record {
  is_at : IsAt l.origin l.file l.cursor;
  before : l.cursor.byte ≤ l.to;
}

abbrev pub decreases-loop-cursor : goal.decreases-loop-cursor
decreases-loop-cursor l = l.to - l.cursor.byte
