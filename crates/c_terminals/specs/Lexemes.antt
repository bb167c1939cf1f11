-- A list of tokens as the grammar sees it.
use Rattle.std.specs.Prelude.{ℕ, suc, ◌-◌, Bool, cond, ◌&&◌, List, [], ◌∷◌, length, map, slice_get, Option, Some, None, unwrap_or}
use Rattle.std.specs.Option.{option_map}
use Rattle.std.specs.Str.{bytes_eq}
use Rattle.c_lexer.specs.declared.token.Token.{Token}
use Rattle.c_lexer.specs.declared.token.TokenKind.{TokenKind}
use Rattle.c_lexer.specs.declared.token.TokenKind.TheVariants as kind
use Rattle.c_parts.specs.declared.lexeme.Lexeme.{Lexeme}
use Rattle.c_parts.specs.declared.terminal.Terminal.{Terminal}
use Rattle.c_parts.specs.declared.terminal.Terminal.TheVariants as t
use Rattle.c_terminals.specs.Texts.{text_of, is_name}
use Rattle.c_terminals.specs.Words.{of_word, of_punctuator}

-- the terminal of a text of this kind
abbrev pub terminal_by : TokenKind → List ℕ → Terminal
terminal_by kind.Name text = of_word text
terminal_by kind.Punct text = of_punctuator text
terminal_by kind.Number text = t.Number
terminal_by kind.Character text = t.Character
terminal_by kind.Text text = t.Text
terminal_by kind.End text = t.End

-- what a token is to the grammar
abbrev pub terminal_of : List ℕ → Token → Terminal
terminal_of bytes token = terminal_by token.kind (text_of bytes token)

-- the token is a word with this text
abbrev pub has_text : List ℕ → List ℕ → Token → Bool
has_text bytes text token = is_name token && bytes_eq text (text_of bytes token)

-- the number of the first word with this text, counted from 0
unfoldable pub first_with : List ℕ → List Token → List ℕ → Option ℕ
first_with bytes [] text = None
first_with bytes (token ∷ tokens) text =
    cond (has_text bytes text token) (Some 0) (option_map suc (first_with bytes tokens text))

-- the number of a name is that of the first word with its text; what is no word has the number 0
abbrev pub number_of : List ℕ → List Token → Token → ℕ
number_of bytes tokens token =
    cond (is_name token) (unwrap_or (first_with bytes tokens (text_of bytes token)) 0) 0

abbrev pub lexeme_of : List ℕ → List Token → Token → Lexeme
lexeme_of bytes tokens token = record {
  terminal = terminal_of bytes token;
  name = number_of bytes tokens token;
  line = token.line;
}

-- the tokens of a list as the grammar sees them, one for each
unfoldable pub lexemes_of : List ℕ → List Token → List Lexeme
lexemes_of bytes tokens = map (lexeme_of bytes tokens) tokens

-- the line of a token, where it is there
abbrev pub line_or : ℕ → Option Token → ℕ
line_or line None = line
line_or line (Some token) = token.line

-- the line of the token of this number, and that of the last one where no token has the number
abbrev pub line_of : List Token → ℕ → ℕ
line_of tokens place = line_or (line_or 1 (slice_get tokens (length tokens - 1))) (slice_get tokens place)
