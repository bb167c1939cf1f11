-- Tokens by their texts.
use Rattle.std.specs.Prelude.{ℕ, ◌-◌, Bool, true, false, ◌&&◌, ◌==◌, List, take, drop}
use Rattle.c_lexer.specs.declared.token.Token.{Token}
use Rattle.c_lexer.specs.declared.token.TokenKind.{TokenKind}
use Rattle.c_lexer.specs.declared.token.TokenKind.TheVariants as kind

-- the bytes of a token
abbrev pub text_of : List ℕ → Token → List ℕ
text_of bytes token = take (token.end - token.start) (drop token.start bytes)

-- the kind is that of names and keywords
abbrev pub is_word : TokenKind → Bool
is_word kind.Name = true
is_word kind.Number = false
is_word kind.Character = false
is_word kind.Text = false
is_word kind.Punct = false
is_word kind.End = false

-- the token is a name or a keyword
abbrev pub is_name : Token → Bool
is_name token = is_word token.kind

-- two of them stand at the same bytes
abbrev pub same_name : Token → Token → Bool
same_name a b = is_name a && is_name b && a.start == b.start && a.end == b.end
