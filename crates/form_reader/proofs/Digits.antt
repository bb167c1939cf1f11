-- Digits, the number that they spell, and the digits of a number.
use Rattle.std.proofs.Common.{◌≡◌, ℕ, ◌+◌, ◌-◌, ◌*◌, ◌<◌, ◌≤◌, ◌^◌, zero, suc, true, false, List, [], ◌∷◌, length, take, get_or, refl, ap, subst, ◌∙◌, arith, slice_index, nat_le, length-take, lit<}
use Rattle.std.proofs.Math.Nat.{pow-le-pow_right}
use Rattle.std.specs.List.{list_all}
use Rattle.std.specs.Char.{digit_value}
use Rattle.std.specs.Fmt.{decimal}
use Rattle.std.specs.Str.Parse.{AllDigits, digits_value}
use Rattle.std.proofs.lemmas.Bool.{and_parts, and_from, leb-true, le-leb, false≢true}
use Rattle.std.proofs.lemmas.Bool.Decides.{nat_tests}
use Rattle.std.proofs.lemmas.Fmt.{decimal_is_IsNumeral, decimal-digits_value, first_decimal, decimal_digit, length-decimal-le}
use Rattle.std.proofs.lemmas.Str.Parse.{numerals_by_value, tells_digits, digit_from_value}
use Rattle.std.proofs.lemmas.Int.Digits.{digits_value_more, digits_value-lt}
use Rattle.form_reader.specs.Lexemes.{is_digit, is_letter, begins}
use Rattle.form_reader.specs.Numerals.{IsNumeral}

-- what a digit counts
digit_value-digit : (c : ℕ) → is_digit c ≡ true → (digit_value c ≡ c - 48) × (digit_value c < 10)
digit_value-digit c d =
    let low : 48 ≤ c = leb-true 48 c (and_parts (nat_le 48 c) (nat_le c 57) d).0 in
    let high : c ≤ 57 = leb-true c 57 (and_parts (nat_le 48 c) (nat_le c 57) d).1 in
    (grind (arith, nat_tests), grind (arith, nat_tests))

-- each byte passes the test, so each is a digit
pub AllDigits-from_test : (ds : List ℕ) → list_all is_digit ds ≡ true → AllDigits 10 ds
AllDigits-from_test [] all = tt
AllDigits-from_test (c ∷ cs) all =
    let parts = and_parts (is_digit c) (list_all is_digit cs) all in
    ((digit_value-digit c parts.0).1, AllDigits-from_test cs parts.1)

-- each byte of a run of digits passes the test
test_at : (ds : List ℕ) (i : ℕ) → list_all is_digit ds ≡ true → i < length ds → is_digit (get_or ds i 0) ≡ true
test_at [] i all within = absurd (omega arith)
test_at (c ∷ cs) zero all within = (and_parts (is_digit c) (list_all is_digit cs) all).0
test_at (c ∷ cs) (suc i) all within = test_at cs i (and_parts (is_digit c) (list_all is_digit cs) all).1 (omega arith)

-- a front of digits is digits
AllDigits-take : (ds : List ℕ) (i : ℕ) → AllDigits 10 ds → AllDigits 10 (take i ds)
AllDigits-take ds zero all = tt
AllDigits-take [] (suc i) all = tt
AllDigits-take (c ∷ cs) (suc i) all = (all.0, AllDigits-take cs i all.1)

-- what up to ten digits spell is small
pub value-small : (ds : List ℕ) (i : ℕ) → IsNumeral ds → digits_value 10 (take i ds) < 10 ^ 10
value-small ds i n =
    let front : length (take i ds) ≤ 10 = omega (arith, length-take i ds, n.short) in
    let all = AllDigits-take ds i (AllDigits-from_test ds n.all) in
    let ten : 0 < 10 = lit< tt in
    let below : 10 ^ length (take i ds) ≤ 10 ^ 10 = pow-le-pow_right ten front in
    omega (arith, digits_value-lt 10 (take i ds) all)

-- one more digit
pub value-more : (ds : List ℕ) (i : ℕ) → IsNumeral ds → i < length ds → digits_value 10 (take (i + 1) ds) ≡ digits_value 10 (take i ds) * 10 + (slice_index ds i - 48)
value-more ds i n within =
    digits_value_more 10 ds i within ∙ ap (λ k. digits_value 10 (take i ds) * 10 + k) (digit_value-digit (get_or ds i 0) (test_at ds i n.all within)).0

-- what counts less than ten is a digit
digit_passes : (c : ℕ) → digit_value c < 10 → is_digit c ≡ true
digit_passes c small =
    let range = digit_from_value c small in
    and_from (nat_le 48 c) (nat_le c 57) (le-leb 48 c (omega arith)) (le-leb c 57 (omega arith))

pub list_all-from_AllDigits : (ds : List ℕ) → AllDigits 10 ds → list_all is_digit ds ≡ true
list_all-from_AllDigits [] all = refl
list_all-from_AllDigits (c ∷ cs) all = and_from (is_digit c) (list_all is_digit cs) (digit_passes c all.0) (list_all-from_AllDigits cs all.1)

-- the digits of a number have no leading zero
lead_of : (n : ℕ) → n < 2 ^ 64 → get_or (decimal n) 0 0 ≡ 48 → length (decimal n) ≡ 1
lead_of zero small first = ap length (decimal_digit 0 (lit< tt))
lead_of (suc n) small first = absurd (omega (arith, first_decimal (suc n) (omega arith) small))

-- the digits of a number that an `int` holds
pub decimal-numeral : (n : ℕ) → n ≤ 2147483647 → IsNumeral (decimal n)
decimal-numeral n small =
    let is = decimal_is_IsNumeral n (omega arith) in
    record {
      some = is.0.0;
      short = length-decimal-le 10 n (lit< tt) (omega arith) (omega arith);
      all = list_all-from_AllDigits (decimal n) is.0.1;
      lead = lead_of n (omega arith);
    }

-- the number of a number's digits
pub value-decimal : (n : ℕ) → n ≤ 2147483647 → digits_value 10 (decimal n) ≡ n
value-decimal n small = (decimal_is_IsNumeral n (omega arith)).1

-- the digits of what digits spell
pub decimal-value : (ds : List ℕ) → IsNumeral ds → digits_value 10 ds ≤ 2147483647 → decimal (digits_value 10 ds) ≡ ds
decimal-value ds n small = decimal-digits_value (numerals_by_value _ tells_digits) ds (AllDigits-from_test ds n.all) n.some n.lead (omega arith)

-- a minus sign spells no number
pub decimal-not_minus : (n : ℕ) → n ≤ 2147483647 → decimal n ≡ 45 ∷ [] → ⊥
decimal-not_minus n small minus = false≢true (subst (λ (ds : List ℕ). list_all is_digit ds ≡ true) minus (decimal-numeral n small).all)

-- no digit is a letter
no_letter : (c : ℕ) → is_digit c ≡ true → is_letter c ≡ false
no_letter c digit =
    let low : 48 ≤ c = leb-true 48 c (and_parts (nat_le 48 c) (nat_le c 57) digit).0 in
    let high : c ≤ 57 = leb-true c 57 (and_parts (nat_le 48 c) (nat_le c 57) digit).1 in
    grind (arith, nat_tests)

begins_with_digit : (ds : List ℕ) → list_all is_digit ds ≡ true → begins is_letter ds ≡ false
begins_with_digit [] all = refl
begins_with_digit (c ∷ cs) all = no_letter c (and_parts (is_digit c) (list_all is_digit cs) all).0

-- a number begins with no letter
pub decimal-no_letter : (n : ℕ) → n ≤ 2147483647 → begins is_letter (decimal n) ≡ false
decimal-no_letter n small = begins_with_digit (decimal n) (decimal-numeral n small).all
