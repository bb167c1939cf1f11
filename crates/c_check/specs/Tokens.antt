-- What a file's tokens mean to its checker, each by its number.
use Rattle.std.specs.Prelude.{ℕ, zero, suc, ◌-◌, Bool, false, List, [], ◌++◌, map, slice_get, Option, Some, None}
use Rattle.std.specs.Str.{bytes_eq}
use Rattle.filc_num.specs.declared.c_int_type.CIntType.{CIntType}
use Rattle.filc_num.specs.declared.c_int_type.CIntType.TheVariants.{Int}
use Rattle.c_lexer.specs.declared.numbers.Number.{Number}
use Rattle.c_lexer.specs.declared.token.Token.{Token}
use Rattle.c_lexer.specs.declared.tokens.Tokens.{Tokens}
use Rattle.c_lexer.specs.Number.{number_of}
use Rattle.c_lexer.specs.Quoted.{character_of, text_of as text_value}
use Rattle.c_terminals.specs.Texts.{text_of}

-- the tokens of a file, with the bytes that they are slices of
pub record PlainTokens : Type 0 where
  pub bytes : List ℕ
  pub list : List Token

abbrev pub plain_tokens : Tokens → PlainTokens
plain_tokens tokens = record { bytes = tokens.bytes.items; list = tokens.list.items }

-- what a token is spelled by; past the list there is nothing
abbrev pub text_in : List ℕ → Option Token → List ℕ
text_in bytes None = []
text_in bytes (Some token) = text_of bytes token

abbrev pub text_at : PlainTokens → ℕ → List ℕ
text_at tokens place = text_in tokens.bytes (slice_get tokens.list place)

-- the type and the value of a number. The lexer lets no other through
abbrev pub number_or_zero : Option Number → CIntType × ℕ
number_or_zero None = (Int, 0)
number_or_zero (Some n) = (n.c_type, n.value)

abbrev pub number_at : PlainTokens → ℕ → CIntType × ℕ
number_at tokens place = number_or_zero (number_of (text_at tokens place))

abbrev pub or_nothing : Option ℕ → ℕ
or_nothing None = 0
or_nothing (Some value) = value

abbrev pub character_at : PlainTokens → ℕ → ℕ
character_at tokens place = or_nothing (character_of (text_at tokens place))

abbrev pub or_no_bytes : Option (List ℕ) → List ℕ
or_no_bytes None = []
or_no_bytes (Some bytes) = bytes

abbrev pub bytes_at : PlainTokens → ℕ → List ℕ
bytes_at tokens place = or_no_bytes (text_value (text_at tokens place))

-- whether a name is spelled so, where there is one
abbrev pub is_spelled : (spelling : ℕ → List ℕ) → (letters : List ℕ) → Option ℕ → Bool
is_spelled spelling letters None = false
is_spelled spelling letters (Some name) = bytes_eq (spelling name) letters

-- texts side by side are one (C11 5.1.1.2, phase 6)
unfoldable pub bytes_from : PlainTokens → (count place : ℕ) → List ℕ
bytes_from tokens zero place = []
bytes_from tokens (suc n) place = bytes_at tokens place ++ bytes_from tokens n (suc place)

abbrev pub text_between : PlainTokens → (first last : ℕ) → List ℕ
text_between tokens first last = bytes_from tokens (suc last - first) first

abbrev pub is_library_token : Option Token → Bool
is_library_token None = false
is_library_token (Some token) = token.library

abbrev pub library_flags : PlainTokens → List Bool
library_flags tokens = map (λ (t : Token). t.library) tokens.list

abbrev pub is_library_at : PlainTokens → ℕ → Bool
is_library_at tokens place = is_library_token (slice_get tokens.list place)
