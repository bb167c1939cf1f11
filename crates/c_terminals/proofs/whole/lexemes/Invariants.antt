use Rattle.std.proofs.Common.{◌≡◌, map, take}
use Rattle.c_terminals.specs.Lexemes.{lexeme_of}
use Rattle.c_terminals.specs.Places.{IsNumbered}
use Rattle.c_terminals.proofs.whole.lexemes.Given as goal

-- the tokens so far are read
abbrev pub invariant-loop-place : goal.invariant-loop-place
invariant-loop-place l = record {
  so_far : l.lexemes.items ≡ map (lexeme_of l.tokens.bytes.items l.tokens.list.items) (take l.place l.tokens.list.items);
  numbered : IsNumbered l.tokens.bytes.items l.tokens.list.items l.place l.places;
}
