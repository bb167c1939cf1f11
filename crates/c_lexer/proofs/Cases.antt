-- What `front_of` is, by the class of the first byte.
use Rattle.std.proofs.Common.{codes, ◌≡◌, ℕ, ◌==◌, ◌||◌, ◌&&◌, List, [], ◌∷◌, Bool, true, false, not, cond, refl, ap, sym, ◌∙◌}
use Rattle.std.proofs.Common.{arith}
use Rattle.std.proofs.lemmas.Bool.{eqb-true, and_parts}
use Rattle.std.proofs.lemmas.Bool.Decides.{nat_tests}
use Rattle.std.specs.List.{list_any, list_all}
use Rattle.std.specs.Char.{is_ascii_digit}
use Rattle.c_lexer.specs.declared.front.Front.{Front}
use Rattle.c_lexer.specs.declared.front.Front.TheVariants as front
use Rattle.c_lexer.specs.Classes.{line_feed, double_quote, single_quote, slash, is_blank, is_letter}
use Rattle.c_lexer.specs.Quoted.{closing}
use Rattle.c_lexer.specs.Punct.{punct_length, is_punct_of_one}
use Rattle.c_lexer.specs.Front.{name_front, number_front, slash_front, quoted_front, punct_front, front_of}

-- a fact of a `cond` by its two cases
abbrev pub by_test : {A : Type 0} (P : A → Type 0) (b : Bool) (x y : A) → (b ≡ true → P x) → (b ≡ false → P y) → P (cond b x y)
by_test P b x y if_true if_false =
    elim b as (λ t. (t ≡ true → P x) → (t ≡ false → P y) → P (cond t x y)) [ true ↦ λ f g. f refl | false ↦ λ f g. g refl ] if_true if_false

-- a fact of `front_of` by the class of the first byte
pub front_cases : (P : Front → Type 0) (library : Bool) (first : ℕ) (rest : List ℕ)
    → (first ≡ line_feed → P front.LineEnd)
    → (is_blank first ≡ true → P (front.Blank 0))
    → (is_letter first ≡ true → P (name_front library (first ∷ rest) rest))
    → (is_ascii_digit first ≡ true → P (number_front (first ∷ rest) rest))
    → (first ≡ slash → P (slash_front rest))
    → (first ≡ double_quote → P (quoted_front first rest (closing false first rest)))
    → (first ≡ single_quote → P (quoted_front first rest (closing false first rest)))
    → P (punct_front (punct_length first rest))
    → P (front_of library first rest)
unfolding front_of
front_cases P library first rest feed blank letter digit slashes double single other =
    by_test P (first == line_feed) _ _ (λ h. feed (eqb-true first line_feed h)) (λ _.
    by_test P (is_blank first) _ _ blank (λ _.
    by_test P (is_letter first) _ _ letter (λ _.
    by_test P (is_ascii_digit first) _ _ digit (λ _.
    by_test P (first == slash) _ _ (λ h. slashes (eqb-true first slash h)) (λ _.
    by_test P (first == double_quote || first == single_quote) _ _ (either (first == double_quote) (first == single_quote) refl refl) (λ _. other))))))
  where
    Q : Type 0
    Q = P (quoted_front first rest (closing false first rest))

    either : (a b : Bool) → (first == double_quote) ≡ a → (first == single_quote) ≡ b → (a || b) ≡ true → Q
    either true b e f h = double (eqb-true first double_quote e)
    either false b e f h = single (eqb-true first single_quote (f ∙ h))

-- a letter is in no class before
pub front_letter : (library : Bool) (first : ℕ) (rest : List ℕ) → is_letter first ≡ true → front_of library first rest ≡ name_front library (first ∷ rest) rest
unfolding front_of
front_letter library first rest h =
    let no_feed = letter_no_feed first h in
    let no_blank = letter_no_blank first h in
    rw (no_feed, no_blank, h) refl
  where
    letter_no_feed : (b : ℕ) → is_letter b ≡ true → (b == line_feed) ≡ false
    letter_no_feed b h = grind (arith, nat_tests)

    letter_no_blank : (b : ℕ) → is_letter b ≡ true → is_blank b ≡ false
    letter_no_blank b h = grind (arith, nat_tests)

-- nor is a digit
pub front_digit : (library : Bool) (first : ℕ) (rest : List ℕ) → is_ascii_digit first ≡ true → front_of library first rest ≡ number_front (first ∷ rest) rest
unfolding front_of
front_digit library first rest h =
    let no_feed = digit_no_feed first h in
    let no_blank = digit_no_blank first h in
    let no_letter = digit_no_letter first h in
    rw (no_feed, no_blank, no_letter, h) refl
  where
    digit_no_feed : (b : ℕ) → is_ascii_digit b ≡ true → (b == line_feed) ≡ false
    digit_no_feed b h = grind (arith, nat_tests)

    digit_no_blank : (b : ℕ) → is_ascii_digit b ≡ true → is_blank b ≡ false
    digit_no_blank b h = grind (arith, nat_tests)

    digit_no_letter : (b : ℕ) → is_ascii_digit b ≡ true → is_letter b ≡ false
    digit_no_letter b h = grind (arith, nat_tests)

pub front_double : (library : Bool) (rest : List ℕ) → front_of library double_quote rest ≡ quoted_front double_quote rest (closing false double_quote rest)
unfolding front_of
front_double library rest = refl

pub front_single : (library : Bool) (rest : List ℕ) → front_of library single_quote rest ≡ quoted_front single_quote rest (closing false single_quote rest)
unfolding front_of
front_single library rest = refl

-- the byte is in no class before the operators, but for the slash
abbrev is_late : ℕ → Bool
is_late b = not (b == line_feed) && (not (is_blank b) && (not (is_letter b) && (not (is_ascii_digit b) && not (b == double_quote || b == single_quote))))

any_step : (p : ℕ → Bool) (a x : ℕ) (t some : Bool) → (x == a) ≡ t → p x ≡ true → (some ≡ true → p a ≡ true) → (t || some) ≡ true → p a ≡ true
any_step p a x true some e here later h = ap p (sym (eqb-true x a e)) ∙ here
any_step p a x false some e here later h = later h

-- what holds of each byte of a list holds of one that is in it
pub any_all : (p : ℕ → Bool) (a : ℕ) (xs : List ℕ) → list_all p xs ≡ true → list_any (λ b. b == a) xs ≡ true → p a ≡ true
any_all p a [] every some = cc
any_all p a (x ∷ xs) every some =
    let both = and_parts (p x) (list_all p xs) every in
    any_step p a x (x == a) (list_any (λ b. b == a) xs) refl both.0 (any_all p a xs both.1) some

not_true : (b : Bool) → not b ≡ true → b ≡ false
not_true true h = cc
not_true false h = refl

pub front_punct : (library : Bool) (first : ℕ) (rest : List ℕ) → is_punct_of_one first ≡ true → front_of library first rest ≡ cond (first == slash) (slash_front rest) (punct_front (punct_length first rest))
unfolding front_of
front_punct library first rest h =
    let late : is_late first ≡ true = any_all is_late first (codes "[](){}.&*+-~!/%<>^|?:;=,#") refl h in
    let a = and_parts (not (first == line_feed)) _ late in
    let b = and_parts (not (is_blank first)) _ a.1 in
    let c = and_parts (not (is_letter first)) _ b.1 in
    let d = and_parts (not (is_ascii_digit first)) _ c.1 in
    let no_feed = not_true (first == line_feed) a.0 in
    let no_blank = not_true (is_blank first) b.0 in
    let no_letter = not_true (is_letter first) c.0 in
    let no_digit = not_true (is_ascii_digit first) d.0 in
    let no_quote = not_true (first == double_quote || first == single_quote) d.1 in
    rw (no_feed, no_blank, no_letter, no_digit, no_quote) refl
