-- The bytes that tokens are cut from: those of the file without its splices, each with its line.
--
-- A splice is a backslash and the line feed behind it. It joins two lines of the file into one, and
-- still counts as a line: a byte's line is one more than the number of line feeds before it in the
-- file. In a header of the library every byte has the one line that the header stands at.
use Rattle.std.specs.Prelude.{ℕ, ◌+◌, ◌-◌, Bool, cond, not, nat_lt, slice_index, ◌==◌, ◌&&◌, List, [], ◌∷◌, length, take}
use Rattle.std.specs.List.{count_by}
use Rattle.c_lexer.specs.Classes.{line_feed, backslash}

-- the two bytes are a splice
abbrev pub is_splice : ℕ → ℕ → Bool
is_splice a b = a == backslash && b == line_feed

-- the file without its splices
unfoldable pub without_splices : List ℕ → List ℕ
without_splices [] = []
without_splices (a ∷ []) = a ∷ []
without_splices (a ∷ b ∷ rest) = cond (is_splice a b) (without_splices rest) (a ∷ without_splices (b ∷ rest))

-- how many lines a byte ends
abbrev pub lines_ended : Bool → ℕ → ℕ
lines_ended library b = cond (not library && b == line_feed) 1 0

-- the line of each byte of `without_splices`, where the first byte of the file has this line
unfoldable pub lines_of : Bool → ℕ → List ℕ → List ℕ
lines_of library line [] = []
lines_of library line (a ∷ []) = line ∷ []
lines_of library line (a ∷ b ∷ rest) =
    cond (is_splice a b)
    (lines_of library (line + lines_ended library b) rest)
    (line ∷ lines_of library (line + lines_ended library a) (b ∷ rest))

-- a splice stands behind `at` bytes
abbrev pub splice_at : List ℕ → ℕ → Bool
splice_at file at = nat_lt (at + 1) (length file) && is_splice (slice_index file at) (slice_index file (at + 1))

-- the line of the last byte of the file, and of its first where it is empty
abbrev pub last_line_of : Bool → ℕ → List ℕ → ℕ
last_line_of library line file = cond library line (line + count_by (λ b. b == line_feed) (take (length file - 1) file))
