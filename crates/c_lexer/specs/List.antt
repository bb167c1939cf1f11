-- What the type `Tokens` keeps of its list.
use Rattle.std.specs.Prelude.{ℕ, Bool, true, false, not, ◌&&◌, nat_le, List, [], ◌∷◌}
use Rattle.std.specs.List.{list_all}
use Rattle.c_lexer.specs.declared.token.Token.{Token}
use Rattle.c_lexer.specs.declared.token.TokenKind.{TokenKind}
use Rattle.c_lexer.specs.declared.token.TokenKind.TheVariants.{Name, Number, Character, Text, Punct, End}

abbrev pub is_end : TokenKind → Bool
is_end Name = false
is_end Number = false
is_end Character = false
is_end Text = false
is_end Punct = false
is_end End = true

-- each token is a slice of so many bytes
abbrev pub all_within : ℕ → List Token → Bool
all_within size tokens = list_all (λ token. nat_le token.start token.end && nat_le token.end size) tokens

-- the last token is an End, and no other is
abbrev pub ends_once : List Token → Bool
ends_once [] = false
ends_once (token ∷ []) = is_end token.kind
ends_once (token ∷ next ∷ rest) = not (is_end token.kind) && ends_once (next ∷ rest)
