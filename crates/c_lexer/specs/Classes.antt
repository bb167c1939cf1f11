-- Classes of bytes, and the names of single bytes.
use Rattle.std.specs.Prelude.{ℕ, Bool, ◌==◌, ◌||◌}
use Rattle.std.specs.Char.{is_ascii_digit, is_ascii_alphabetic}

abbrev pub line_feed : ℕ
line_feed = 10

abbrev pub double_quote : ℕ
double_quote = 34

abbrev pub single_quote : ℕ
single_quote = 39

abbrev pub star : ℕ
star = 42

abbrev pub point : ℕ
point = 46

abbrev pub slash : ℕ
slash = 47

abbrev pub backslash : ℕ
backslash = 92

abbrev pub underscore : ℕ
underscore = 95

-- white space that ends no line: a space, a tab, a vertical tab, a form feed, a carriage return
abbrev pub is_blank : ℕ → Bool
is_blank b = b == 32 || b == 9 || b == 11 || b == 12 || b == 13

-- what a name begins with
abbrev pub is_letter : ℕ → Bool
is_letter b = is_ascii_alphabetic b || b == underscore

-- what a name goes on with
abbrev pub is_word : ℕ → Bool
is_word b = is_letter b || is_ascii_digit b

-- what a number goes on with, good or bad
abbrev pub is_number_byte : ℕ → Bool
is_number_byte b = is_word b || b == point
