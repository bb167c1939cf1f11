-- What parsing a token list gives: the tree that spells it, or the token at which it is refused.
--
-- The tokens are seen as `lexemes_of` says: each by its terminal, its name's number and its line. What spells what is
-- the grammar's matter (`c_syntax/specs/Files.antt`), and so is which token is refused (`Spelling.antt` beside it).
use Rattle.std.specs.Prelude.{◌≡◌, ℕ, List}
use Rattle.c_lexer.specs.declared.token.Token.{Token}
use Rattle.c_parts.specs.declared.lexeme.Lexeme.{Lexeme}
use Rattle.c_parts.specs.Scopes.{State}
use Rattle.c_parts.specs.Reading.{Why, Syntax, Deep}
use Rattle.c_cursor.specs.Input.{start_of}
use Rattle.c_syntax.specs.declared.file.File.{File}
use Rattle.c_syntax.specs.Spelling.{Spells, IsRefused, IsRightlyRefused, files, most_nesting}
use Rattle.c_terminals.specs.Lexemes.{lexemes_of, line_of}
use Rattle.c_parser.specs.declared.fault.ParseFault.{ParseFault}
use Rattle.c_parser.specs.declared.fault.ParseFault.TheVariants as fault

-- the tree spells the list, and nests at most 200 deep
abbrev pub IsTree : List ℕ → List Token → File → Type 0
IsTree bytes tokens tree = Spells files most_nesting (start_of (lexemes_of bytes tokens)) (lexemes_of bytes tokens) tree

-- The list spells no tree that nests at most 200 deep, and is refused for this reason at a token of this line.
pub record IsRefusedOn (why : Why) (bytes : List ℕ) (tokens : List Token) (line : ℕ) : Type 0 where
  pub place : ℕ
  pub rightly : IsRightlyRefused files why (start_of (lexemes_of bytes tokens)) (lexemes_of bytes tokens) place
  pub line_is : line ≡ line_of tokens place

-- why the list has no tree; want of memory says nothing of it
abbrev pub IsFault : List ℕ → List Token → ParseFault → Type 0
IsFault bytes tokens (fault.Syntax line) = IsRefusedOn Syntax bytes tokens line
IsFault bytes tokens (fault.Deep line) = IsRefusedOn Deep bytes tokens line
IsFault bytes tokens fault.NoMemory = Unit {0}

-- a list is refused for one reason and at one token
abbrev pub RefusalsAreOne : Type 0
RefusalsAreOne =
    (n : State) (ts : List Lexeme) (why other : Why) (place there : ℕ) → IsRefused files why n ts place →
    IsRefused files other n ts there → (why ≡ other) × (place ≡ there)
