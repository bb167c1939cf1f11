-- What the grammar sees of a token list, apart from how it is made.
use Rattle.std.specs.Prelude.{◌≡◌, ℕ, ◌≤◌, Bool, true, not, ◌&&◌, List, [], ◌∷◌, slice_get, Some}
use Rattle.std.specs.List.{list_any}
use Rattle.std.specs.Str.{bytes_eq}
use Rattle.c_lexer.specs.declared.token.Token.{Token}
use Rattle.c_terminals.specs.Texts.{text_of, is_name}
use Rattle.c_terminals.specs.Words.{Table, keywords, punctuators}
use Rattle.c_terminals.specs.Lexemes.{number_of}

-- the text is one of these
abbrev pub is_among : List ℕ → Table → Bool
is_among text table = list_any (λ entry. bytes_eq text entry.0) table

-- no two texts of the table are the same
abbrev pub are_apart : Table → Bool
are_apart [] = true
are_apart (entry ∷ table) = not (is_among entry.0 table) && are_apart table

-- Each table has each of its texts once, so that its order does not matter.
abbrev pub TextsDiffer : Type 0
TextsDiffer = (are_apart keywords ≡ true) × (are_apart punctuators ≡ true)

-- the token is a word of this list
pub record IsWordOf (tokens : List Token) (place : ℕ) (token : Token) : Type 0 where
  pub there : slice_get tokens place ≡ Some token
  pub is_word : is_name token ≡ true

-- Two words of a list have the same number exactly where they have the same text.
pub record NumbersAreOfTexts : Type 0 where
  pub same : (bytes : List ℕ) (tokens : List Token) (a b : Token) → is_name a ≡ true → is_name b ≡ true → text_of bytes a ≡ text_of bytes b → number_of bytes tokens a ≡ number_of bytes tokens b
  pub apart : (bytes : List ℕ) (tokens : List Token) (i j : ℕ) (a b : Token) → IsWordOf tokens i a → IsWordOf tokens j b → number_of bytes tokens a ≡ number_of bytes tokens b → text_of bytes a ≡ text_of bytes b

-- The number of a word is at most that of its token.
abbrev pub NumbersAreOfEarlierTokens : Type 0
NumbersAreOfEarlierTokens = (bytes : List ℕ) (tokens : List Token) (i : ℕ) (a : Token) → IsWordOf tokens i a → number_of bytes tokens a ≤ i
