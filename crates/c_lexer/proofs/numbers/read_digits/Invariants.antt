use Rattle.std.proofs.Common.{◌≡◌, ℕ, ◌<◌, true, take, get_or}
use Rattle.std.specs.Char.{is_digit}
use Rattle.c_lexer.specs.Number.{value_of, fitting}
use Rattle.c_lexer.proofs.numbers.read_digits.Given as goal

-- what was read are digits, and the value is theirs
abbrev pub invariant-loop-count : goal.invariant-loop-count
invariant-loop-count l = record {
  digits : (k : ℕ) → k < l.count → is_digit (get_or l.text k 0) l.base ≡ true;
  so_far : l.value ≡ fitting (value_of l.base 0 (take l.count l.text));
}
