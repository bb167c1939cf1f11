use Rattle.std.proofs.Common.{◌≡◌, ◌-◌, ◌≤◌, true, not, drop, length}
use Rattle.std.specs.List.{list_all}
use Rattle.c_lexer.specs.Cursor.{IsAt}
use Rattle.c_lexer.specs.List.{is_end, all_within}
use Rattle.c_lexer.specs.Source.{lines_of}
use Rattle.c_lexer.specs.Tokens.{tokens_from}
use Rattle.c_lexer.proofs.Scanning.{prepend}
use Rattle.c_lexer.proofs.scan.scan.Given as goal

-- the tokens so far, and the outcome of what is left, are the outcome of the whole
abbrev pub invariant-loop-at : goal.invariant-loop-at
invariant-loop-at l = record {
  is_at : IsAt l.origin l.file l.cursor;
  before : l.cursor.byte ≤ l.at;
  within : l.at ≤ length l.bytes;
  told : prepend l.list.items (tokens_from l.origin.library l.last (lines_of l.origin.library l.origin.line l.file) l.at l.first 0 (drop l.at l.bytes)) ≡ tokens_from l.origin.library l.last (lines_of l.origin.library l.origin.line l.file) 0 true 0 l.bytes;
  slices : all_within (length l.bytes) l.list.items ≡ true;
  no_end : list_all (λ token. not (is_end token.kind)) l.list.items ≡ true;
}

abbrev pub decreases-loop-at : goal.decreases-loop-at
decreases-loop-at l = length l.bytes - l.at
