-- The lexeme that a token of the code stands for.
use Rattle.form_reader.specs.declared.lexemes.Token.{Token}
use Rattle.form_reader.specs.declared.lexemes.Token.TheVariants as tokens
use Rattle.form_reader.specs.Lexemes.{Lexeme, Run, Mark, Twin}

-- a token's run is a part of the file's bytes
abbrev pub lexeme_of : Token → Lexeme
lexeme_of (tokens.Run bytes line) = Run bytes.now line
lexeme_of (tokens.Mark byte line) = Mark byte line
lexeme_of (tokens.Twin line) = Twin line
