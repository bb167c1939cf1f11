-- The digits of a number that an `int` may hold.
use Rattle.std.specs.Prelude.{◌≡◌, ℕ, ◌<◌, ◌≤◌, true, List, length, slice_index}
use Rattle.std.specs.List.{list_all}
use Rattle.form_reader.specs.Lexemes.{is_digit}

-- one to ten digits, of which the first is 0 only where it is the only one
pub record IsNumeral (digits : List ℕ) : Type 0 where
  pub some : 0 < length digits
  pub short : length digits ≤ 10
  pub all : list_all is_digit digits ≡ true
  pub lead : slice_index digits 0 ≡ 48 → length digits ≡ 1
