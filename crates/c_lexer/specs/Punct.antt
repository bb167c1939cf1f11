-- Operators and separators.
--
-- [ ] ( ) { } . -> ++ -- & * + - ~ ! / % << >> < > <= >= == != ^ | && || ? : ; ... = *= /= %= += -= <<= >>= &= ^= |= , #
use Rattle.std.specs.Prelude.{codes, ℕ, Bool, cond, ◌==◌, ◌&&◌, ◌||◌, List, [], ◌∷◌}
use Rattle.std.specs.List.{list_any}

-- of one byte
abbrev pub is_punct_of_one : ℕ → Bool
is_punct_of_one a = list_any (λ b. b == a) (codes "[](){}.&*+-~!/%<>^|?:;=,#")

-- of two: a byte and =, a byte twice, or an arrow
abbrev pub is_punct_of_two : ℕ → ℕ → Bool
is_punct_of_two a b =
    cond (b == 61) (list_any (λ c. c == a) (codes "<>=!*/%+-&^|"))
    (cond (a == b) (list_any (λ c. c == a) (codes "+-<>&|")) (a == 45 && b == 62))

-- of three: ..., <<= and >>=
abbrev pub is_punct_of_three : ℕ → ℕ → ℕ → Bool
is_punct_of_three a b c = a == b && ((a == 46 && c == 46) || ((a == 60 || a == 62) && c == 61))

-- the length of the longest at the front, and 0 where there is none
abbrev pub punct_length : ℕ → List ℕ → ℕ
punct_length a [] = cond (is_punct_of_one a) 1 0
punct_length a (b ∷ []) = cond (is_punct_of_two a b) 2 (cond (is_punct_of_one a) 1 0)
punct_length a (b ∷ c ∷ rest) =
    cond (is_punct_of_three a b c) 3 (cond (is_punct_of_two a b) 2 (cond (is_punct_of_one a) 1 0))
