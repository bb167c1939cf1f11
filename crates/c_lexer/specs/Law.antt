-- What the list of a file's tokens is, in other words than a pass over the bytes.
--
-- Nothing is lost: white space, comments and the texts of the tokens, put together in order, are the
-- bytes. Each token's text is one of its kind, and it is the longest: with one or more of the bytes
-- behind it, it is no token of any kind. No token stands where a comment begins. So the kinds and the
-- places of the tokens are settled; of lines and marks the law says nothing.
use Rattle.std.specs.Prelude.{◌≡◌, ℕ, ◌+◌, ◌<◌, ◌≤◌, ◌==◌, ◌&&◌, ◌||◌, not, Bool, false, IsTrue, List, [], ◌∷◌, ◌++◌, ◌⊎◌, length, take, Some}
use Rattle.std.specs.List.{list_all}
use Rattle.std.specs.Option.{option_map}
use Rattle.std.specs.Char.{is_ascii_digit}
use Rattle.c_lexer.specs.declared.token.Token.{Token}
use Rattle.c_lexer.specs.declared.token.TokenKind.{TokenKind}
use Rattle.c_lexer.specs.declared.token.TokenKind.TheVariants.{Name, Number, Character, Text, Punct, End}
use Rattle.c_lexer.specs.Classes.{line_feed, slash, star, single_quote, double_quote, is_blank, is_letter, is_word, is_number_byte}
use Rattle.c_lexer.specs.Quoted.{closing}
use Rattle.c_lexer.specs.Punct.{is_punct_of_one, is_punct_of_two, is_punct_of_three}
use Rattle.c_lexer.specs.Front.{comment_rest}

-- a byte of the first class, and then bytes of the second
abbrev pub IsRunOf : (ℕ → Bool) → (ℕ → Bool) → List ℕ → Type 0
IsRunOf begins goes_on [] = ⊥
IsRunOf begins goes_on (first ∷ rest) = IsTrue (begins first) × IsTrue (list_all goes_on rest)

-- a quote, and bytes of which the last is the first that closes it
abbrev pub IsQuoted : ℕ → List ℕ → Type 0
IsQuoted quote [] = ⊥
IsQuoted quote (first ∷ rest) = (first ≡ quote) × (option_map (λ before. before + 1) (closing false quote rest) ≡ Some (length rest))

-- an operator or a separator
abbrev pub IsPunct : List ℕ → Type 0
IsPunct [] = ⊥
IsPunct (a ∷ []) = IsTrue (is_punct_of_one a)
IsPunct (a ∷ b ∷ []) = IsTrue (is_punct_of_two a b)
IsPunct (a ∷ b ∷ c ∷ []) = IsTrue (is_punct_of_three a b c)
IsPunct (a ∷ b ∷ c ∷ d ∷ rest) = ⊥

-- the bytes are a token of this kind; nothing is said of the value of a number or of escapes
abbrev pub IsToken : TokenKind → List ℕ → Type 0
IsToken Name text = IsRunOf is_letter is_word text
IsToken Number text = IsRunOf is_ascii_digit is_number_byte text
IsToken Character text = IsQuoted single_quote text
IsToken Text text = IsQuoted double_quote text
IsToken Punct text = IsPunct text
IsToken End text = ⊥

-- no token is these bytes with one or more of those behind them
abbrev pub IsLongest : List ℕ → List ℕ → Type 0
IsLongest text rest = (more : ℕ) (kind : TokenKind) → 0 < more → more ≤ length rest → ¬ IsToken kind (text ++ take more rest)

-- the bytes begin as a comment does
abbrev pub begins_comment : List ℕ → Bool
begins_comment [] = false
begins_comment (a ∷ []) = false
begins_comment (a ∷ b ∷ rest) = a == slash && (b == slash || b == star)

-- a line ends before these bytes
abbrev pub EndsLine : List ℕ → Type 0
EndsLine [] = Unit {0}
EndsLine (b ∷ rest) = b ≡ line_feed

-- a byte of white space, or a comment, before the bytes behind it
abbrev pub IsBlank : List ℕ → List ℕ → Type 0
IsBlank [] behind = ⊥
IsBlank (b ∷ []) behind = IsTrue (b == line_feed || is_blank b)
IsBlank (a ∷ b ∷ body) behind =
    (a ≡ slash) × (((b ≡ star) × (comment_rest false body ≡ Some (length body)))
    ⊎ ((b ≡ slash) × IsTrue (list_all (λ c. not (c == line_feed)) body) × EndsLine behind))

-- the first bytes are any number of blanks, and the others stand behind them
pub data AreBlanks (behind : List ℕ) : List ℕ → Type 0 where
  no_blank : AreBlanks behind behind
  one_more : (blank rest all : List ℕ) → all ≡ blank ++ rest → IsBlank blank rest → AreBlanks behind rest → AreBlanks behind all

-- the first token of a list stands behind blanks, its text at its place, and the bytes are cut into the rest of the list behind it
pub record IsFirst (token : Token) (at : ℕ) (bytes text rest : List ℕ) : Type 0 where
  pub blanks : AreBlanks (text ++ rest) bytes
  pub starts : token.start + length text + length rest ≡ at + length bytes
  pub stops : token.end ≡ token.start + length text
  pub kind : IsToken token.kind text
  pub longest : IsLongest text rest
  pub no_comment : begins_comment (text ++ rest) ≡ false

-- the End stands behind blanks, at the end
pub record IsLast (token : Token) (at : ℕ) (bytes : List ℕ) : Type 0 where
  pub blanks : AreBlanks [] bytes
  pub starts : token.start ≡ at + length bytes
  pub stops : token.end ≡ token.start
  pub kind : token.kind ≡ End

-- the bytes that begin behind `at` others are the tokens' texts and the blanks between them
abbrev pub IsCutInto : ℕ → List ℕ → List Token → Type 0
IsCutInto at bytes [] = ⊥
IsCutInto at bytes (token ∷ []) = IsLast token at bytes
IsCutInto at bytes (token ∷ next ∷ tokens) =
    (text : List ℕ) × (rest : List ℕ) × IsFirst token at bytes text rest × IsCutInto token.end rest (next ∷ tokens)
