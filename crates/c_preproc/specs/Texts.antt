-- Tokens by their texts.
use Rattle.std.specs.Prelude.{ℕ, ◌-◌, Bool, true, false, ◌&&◌, ◌==◌, List, [], ◌∷◌, take, drop}
use Rattle.c_lexer.specs.declared.token.Token.{Token}
use Rattle.c_lexer.specs.declared.token.TokenKind.{TokenKind}
use Rattle.c_lexer.specs.declared.token.TokenKind.TheVariants.{Name, Number, Character, Text, Punct, End}

-- the bytes of a token
abbrev pub text_of : List ℕ → Token → List ℕ
text_of bytes token = take (token.end - token.start) (drop token.start bytes)

-- two texts are the same
abbrev pub same_text : List ℕ → List ℕ → Bool
same_text [] [] = true
same_text [] (b ∷ bs) = false
same_text (a ∷ as_) [] = false
same_text (a ∷ as_) (b ∷ bs) = a == b && same_text as_ bs

-- the kinds by number
abbrev pub number_of_kind : TokenKind → ℕ
number_of_kind Name = 0
number_of_kind Number = 1
number_of_kind Character = 2
number_of_kind Text = 3
number_of_kind Punct = 4
number_of_kind End = 5

-- two kinds are the same
abbrev pub same_kind : TokenKind → TokenKind → Bool
same_kind a b = number_of_kind a == number_of_kind b

abbrev pub is_name : Token → Bool
is_name token = same_kind token.kind Name

-- the token is this name; it is this punctuator
abbrev pub is_word : List ℕ → Token → List ℕ → Bool
is_word bytes token word = is_name token && same_text (text_of bytes token) word

abbrev pub is_punctuator : List ℕ → Token → List ℕ → Bool
is_punctuator bytes token text = same_kind token.kind Punct && same_text (text_of bytes token) text

-- two tokens are the same but for where they stand
abbrev pub same_token : List ℕ → Token → Token → Bool
same_token bytes a b = same_kind a.kind b.kind && same_text (text_of bytes a) (text_of bytes b)

abbrev pub same_tokens : List ℕ → List Token → List Token → Bool
same_tokens bytes [] [] = true
same_tokens bytes [] (b ∷ bs) = false
same_tokens bytes (a ∷ as_) [] = false
same_tokens bytes (a ∷ as_) (b ∷ bs) = same_token bytes a b && same_tokens bytes as_ bs
