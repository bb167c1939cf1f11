-- The tokens of a file: the longest match at the front, then the rest, up to the first fault.
use Rattle.std.specs.Prelude.{ℕ, zero, suc, ◌+◌, Bool, true, false, cond, nat_lt, List, [], ◌∷◌, slice_index, length, Result, Ok, Err}
use Rattle.c_lexer.specs.declared.fault.LexFault.{LexFault}
use Rattle.c_lexer.specs.declared.fault.LexFault.TheVariants as fault
use Rattle.c_lexer.specs.declared.front.Front.{Front}
use Rattle.c_lexer.specs.declared.front.Front.TheVariants as front
use Rattle.c_lexer.specs.declared.token.Token.{Token}
use Rattle.c_lexer.specs.declared.token.Origin.{Origin}
use Rattle.c_lexer.specs.declared.token.TokenKind.{TokenKind}
use Rattle.c_lexer.specs.declared.token.TokenKind.TheVariants.{End}
use Rattle.c_lexer.specs.Source.{without_splices, lines_of, last_line_of}
use Rattle.c_lexer.specs.Front.{front_of}

-- a token list, or the fault that comes before it is whole
abbrev pub Outcome : Type 0
Outcome = Result (List Token) LexFault

-- a token, and what stands behind it
abbrev pub with_token : Token → Outcome → Outcome
with_token token (Ok tokens) = Ok (token ∷ tokens)
with_token token (Err fault) = Err fault

-- the token of this kind from `start` to `end`
abbrev pub token_at : Bool → ℕ → Bool → TokenKind → ℕ → ℕ → Token
token_at library line first kind start end =
    record { kind = kind; line = line; start = start; end = end; first = first; library = library }

-- goes on behind the first byte of what stands at the front; the rest of the outcome is a function of
-- whether a token there is the first on its line, and of how many more bytes belong to this front
abbrev pub after_front : Bool → ℕ → ℕ → Bool → Front → (Bool → ℕ → Outcome) → Outcome
after_front library line at first front.LineEnd behind = behind true 0
after_front library line at first (front.Blank more) behind = behind first more
after_front library line at first (front.Token kind more) behind =
    with_token (token_at library line first kind at (at + 1 + more)) (behind false more)
after_front library line at first front.Bad behind = Err (fault.Bad line)
after_front library line at first front.Unclosed behind = Err (fault.Unclosed line)
after_front library line at first front.Literal behind = Err (fault.Literal line)

-- the tokens from `at` on, where the next `inside` bytes are part of what began before them
unfoldable pub tokens_from : Bool → ℕ → List ℕ → ℕ → Bool → ℕ → List ℕ → Outcome
tokens_from library last lines at first inside [] = Ok (token_at library last first End at at ∷ [])
tokens_from library last lines at first zero (b ∷ rest) =
    after_front library (slice_index lines at) at first (front_of library b rest)
    (λ first inside. tokens_from library last lines (at + 1) first inside rest)
tokens_from library last lines at first (suc inside) (b ∷ rest) =
    tokens_from library last lines (at + 1) first inside rest

-- the most bytes that a file may have
abbrev pub file_limit : ℕ
file_limit = 1048576

-- the tokens of the bytes that come from there
abbrev pub tokens_with : Origin → List ℕ → Outcome
tokens_with origin file =
    cond (nat_lt file_limit (length file)) (Err fault.TooLong)
    (tokens_from origin.library (last_line_of origin.library origin.line file) (lines_of origin.library origin.line file) 0 true 0 (without_splices file))

-- where a user's file comes from
abbrev pub user : Origin
user = record { line = 1; library = false }

-- the tokens of a user's file, or its first fault
abbrev pub tokens_of : List ℕ → Outcome
tokens_of file = tokens_with user file

-- where a header comes from that stands at this line of a user's file
abbrev pub header_at : ℕ → Origin
header_at line = record { line = line; library = true }

-- the tokens of a header, or its first fault
abbrev pub library_tokens_of : ℕ → List ℕ → Outcome
library_tokens_of line text = tokens_with (header_at line) text
