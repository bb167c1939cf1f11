use Rattle.std.proofs.Common.{◌≡◌, ◌-◌, length}
use Rattle.c_lexer.specs.Cursor.{Reaches}
use Rattle.c_lexer.proofs.source.Cursor.behind_splices.Given as goal

abbrev pub invariant-loop-origin : goal.invariant-loop-origin
invariant-loop-origin l = record {
  reaches : Reaches l.fn.origin l.file l.cursor;
  byte : l.cursor.byte ≡ l.fn.self.byte;
}

abbrev pub decreases-loop-origin : goal.decreases-loop-origin
decreases-loop-origin l = length l.file - l.cursor.place
