-- Lemmas on digits: one digit more at the end.
use Rattle.std.proofs.Common.{◌≡◌, ℕ, ◌+◌, ◌*◌, ◌^◌, ◌<◌, ◌≤◌, List, [], ◌∷◌, ◌++◌, Option, Some, None, MatchOption, nat_lt, cond, Bool, true, false, refl, arith, length, take, get_or, ap, sym, ◌∙◌}
use Rattle.std.proofs.lemmas.Bool.{cond_above, lt-ltb, le-ltb, ltb-false}
use Rattle.std.proofs.lemmas.List.{take_more}
use Rattle.std.proofs.lemmas.List.Sums.{prefix_len_is}
use Rattle.std.specs.List.{prefix_len}
use Rattle.std.specs.Char.{digit_value, is_digit}
use Rattle.c_lexer.specs.Number.{value_of, fitting, digits_of}

value_of-snoc : (base so_far : ℕ) (xs : List ℕ) (d : ℕ) → value_of base so_far (xs ++ d ∷ []) ≡ value_of base so_far xs * base + digit_value d
value_of-snoc base so_far [] d = refl
value_of-snoc base so_far (x ∷ xs) d = value_of-snoc base (so_far * base + digit_value x) xs d

-- a number that 64 bits don't hold has none with a digit more either
fitting_above : (base v d : ℕ) → 1 ≤ base → 2 ^ 64 ≤ v → 2 ^ 64 ≤ v * base + d
fitting_above base v d h above = grind arith

fitting_cases : (base v d : ℕ) (b : Bool) (new : Option ℕ) → 1 ≤ base → nat_lt v (2 ^ 64) ≡ b → MatchOption (cond b (Some v) None) (new ≡ None) (λ value. new ≡ fitting (value * base + d)) → new ≡ fitting (v * base + d)
fitting_cases base v d true new h t m = m
fitting_cases base v d false new h t m =
    m ∙ cond_above (v * base + d) (2 ^ 64) (Some (v * base + d)) None None (fitting_above base v d h (ltb-false v (2 ^ 64) t)) refl

-- the value so far with one digit more
fitting_step : (base v d : ℕ) (old new : Option ℕ) → 1 ≤ base → old ≡ fitting v → MatchOption old (new ≡ None) (λ value. new ≡ fitting (value * base + d)) → new ≡ fitting (v * base + d)
fitting_step base v d old new h e m = fitting_cases base v d (nat_lt v (2 ^ 64)) new h refl (rw e at m)

-- the value of the digits so far, with the next
pub value_step : (base : ℕ) (text : List ℕ) (i d : ℕ) (old new : Option ℕ) → 1 ≤ base → i < length text → d ≡ digit_value (get_or text i 0) → old ≡ fitting (value_of base 0 (take i text)) → MatchOption old (new ≡ None) (λ value. new ≡ fitting (value * base + d)) → new ≡ fitting (value_of base 0 (take (i + 1) text))
value_step base text i d old new h within is e m =
    fitting_step base (value_of base 0 (take i text)) d old new h e m
    ∙ ap fitting (ap (λ n. value_of base 0 (take i text) * base + n) is ∙ sym (value_of-snoc base 0 (take i text) (get_or text i 0)) ∙ ap (value_of base 0) (sym (take_more text i 0 within)))

-- a byte whose value is not below the base is no digit of it
pub no_digit : (base b d : ℕ) → d ≡ digit_value b → base ≤ d → is_digit b base ≡ false
no_digit base b d e h = let le : base ≤ digit_value b = rw (← e) h in le-ltb (digit_value b) base le

pub digit_below : (base b d : ℕ) → d ≡ digit_value b → d < base → is_digit b base ≡ true
digit_below base b d e h = let lt : digit_value b < base = rw (← e) h in lt-ltb (digit_value b) base lt

-- the digits that were read are those at the front
pub digits_end : (base : ℕ) (text : List ℕ) (n : ℕ) → n ≤ length text → ((k : ℕ) → k < n → is_digit (get_or text k 0) base ≡ true) → (n < length text → is_digit (get_or text n 0) base ≡ false) → n ≡ prefix_len (λ b. is_digit b base) text
digits_end base text n within all stops = sym (prefix_len_is (λ b. is_digit b base) text n 0 within all stops)

-- and so is their value
pub value_end : (base : ℕ) (text : List ℕ) (n : ℕ) (value : Option ℕ) → n ≡ prefix_len (λ b. is_digit b base) text → value ≡ fitting (value_of base 0 (take n text)) → value ≡ fitting (value_of base 0 (digits_of base text))
value_end base text n value e h = h ∙ ap (λ k. fitting (value_of base 0 (take k text))) e
