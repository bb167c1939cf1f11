-- What stands in a file of the small form, before any grammar: runs of word bytes, and marks.
--
-- A run is as long as it can be, so two words that touch are one run. Spaces and line feeds stand between
-- lexemes and nowhere else. Each lexeme has the line, counted from 1, in which it begins.
use Rattle.std.specs.Prelude.{ℕ, ◌+◌, ◌==◌, ◌||◌, ◌&&◌, nat_le, Bool, false, List, [], ◌∷◌, if◌then◌else◌}

-- a run of word bytes, one other byte, or two minus signs with nothing between them
pub data Lexeme : Type 0 where
  Run : (bytes : List ℕ) (line : ℕ) → Lexeme
  Mark : (byte : ℕ) (line : ℕ) → Lexeme
  Twin : (line : ℕ) → Lexeme

-- a space or a line feed
abbrev pub is_blank : ℕ → Bool
is_blank b = b == 32 || b == 10

-- a digit
abbrev pub is_digit : ℕ → Bool
is_digit b = nat_le 48 b && nat_le b 57

-- a letter
abbrev pub is_letter : ℕ → Bool
is_letter b = (nat_le 65 b && nat_le b 90) || (nat_le 97 b && nat_le b 122)

-- a byte of a run: a letter, a digit or an underscore
abbrev pub is_word : ℕ → Bool
is_word b = is_letter b || is_digit b || b == 95

-- the first byte passes the test
abbrev pub begins : (ℕ → Bool) → List ℕ → Bool
begins test [] = false
begins test (b ∷ bytes) = test b

-- the line after a byte
abbrev pub line_after : ℕ → ℕ → ℕ
line_after b line = if b == 10 then line + 1 else line

-- a word byte goes onto the run that it touches
abbrev pub longer : ℕ → ℕ → List Lexeme → List Lexeme
longer b line (Run bytes l ∷ lexemes) = Run (b ∷ bytes) line ∷ lexemes
longer b line lexemes = Run (b ∷ []) line ∷ lexemes

-- the lexemes of a file from this line on
unfoldable pub lexemes : ℕ → List ℕ → List Lexeme
lexemes line [] = []
lexemes line (b ∷ bytes) =
    if is_blank b then lexemes (line_after b line) bytes
    else (if is_word b then (if begins is_word bytes then longer b line (lexemes line bytes) else Run (b ∷ []) line ∷ lexemes line bytes)
    else (if b == 45 && begins (λ next. next == 45) bytes then Twin line ∷ lexemes line bytes else Mark b line ∷ lexemes line bytes))
