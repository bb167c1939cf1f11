-- Lemmas on where a run, a comment, a text or an operator ends: at its end it is one, and it goes on no further.
use Rattle.std.proofs.Common.{◌≡◌, ℕ, zero, suc, ◌+◌, ◌==◌, ◌<◌, ◌≤◌, List, [], ◌∷◌, Bool, true, false, not, cond, Option, Some, None, length, take, drop, refl, ap, sym, ◌∙◌, arith, subst}
use Rattle.std.proofs.lemmas.Bool.{eqb-true, and_parts}
use Rattle.std.specs.List.{list_all, prefix_len}
use Rattle.std.specs.Option.{option_map}
use Rattle.c_lexer.specs.Classes.{line_feed, star}
use Rattle.c_lexer.specs.Quoted.{closing, closes, escapes}
use Rattle.c_lexer.specs.Front.{comment_rest, ends_comment}
use Rattle.c_lexer.specs.Law.{EndsLine}
use Rattle.c_lexer.proofs.Cases.{by_test}

pub one_more_taken : {A : Type 0} (x : A) (xs : List A) (n : ℕ) → take (1 + n) (x ∷ xs) ≡ x ∷ take n xs
one_more_taken x xs n = let e : 1 + n ≡ suc n = omega arith in ap (λ k. take k (x ∷ xs)) e

pub one_more_dropped : {A : Type 0} (x : A) (xs : List A) (n : ℕ) → drop (1 + n) (x ∷ xs) ≡ drop n xs
one_more_dropped x xs n = let e : 1 + n ≡ suc n = omega arith in ap (λ k. drop k (x ∷ xs)) e

-- the bytes of a run are of the class
pub run_all : (p : ℕ → Bool) (xs : List ℕ) → list_all p (take (prefix_len p xs) xs) ≡ true
run_all p [] = refl
run_all p (x ∷ xs) =
    let P : ℕ → Type 0 = λ n. list_all p (take n (x ∷ xs)) ≡ true in
    let before = run_all p xs in
    by_test P (p x) (1 + prefix_len p xs) 0 (λ h. ap (list_all p) (one_more_taken x xs (prefix_len p xs)) ∙ rw (h, before) refl) (λ _. refl)

-- a run is at least as long as bytes of the class at the front
pub run_fits : (p : ℕ → Bool) (n : ℕ) (xs : List ℕ) → n ≤ length xs → list_all p (take n xs) ≡ true → n ≤ prefix_len p xs
run_fits p zero xs h every = omega arith
run_fits p (suc n) [] h every = absurd (omega arith)
run_fits p (suc n) (x ∷ xs) h every =
    let both = and_parts (p x) (list_all p (take n xs)) every in
    let more = run_fits p n xs (omega arith) both.1 in
    rw both.0 (omega arith)

not_false : (b : Bool) → not b ≡ false → b ≡ true
not_false true h = refl
not_false false h = cc

-- a line ends behind the bytes that are no line feed
pub line_ends : (xs : List ℕ) → EndsLine (drop (prefix_len (λ b. not (b == line_feed)) xs) xs)
line_ends [] = tt
line_ends (x ∷ xs) =
    let P : ℕ → Type 0 = λ n. EndsLine (drop n (x ∷ xs)) in
    let behind = line_ends xs in
    let size = prefix_len (λ b. not (b == line_feed)) xs in
    by_test P (not (x == line_feed)) (1 + size) 0
    (λ h. subst EndsLine (sym (one_more_dropped x xs size)) behind)
    (λ h. eqb-true x line_feed (not_false (x == line_feed) h))

comment_step : (starred : Bool) (x : ℕ) (xs : List ℕ) (size : ℕ) (t : Bool) (r : Option ℕ) → ends_comment starred x ≡ t → cond t (Some 1) (option_map (λ n. n + 1) r) ≡ Some size → ((m : ℕ) → r ≡ Some m → (m ≤ length xs) × (comment_rest (x == star) (take m xs) ≡ Some m)) → (size ≤ suc (length xs)) × (comment_rest starred (take size (x ∷ xs)) ≡ Some size)
unfolding comment_rest
comment_step starred x xs size true r e h behind =
    let P : ℕ → Type 0 = λ n. (n ≤ suc (length xs)) × (comment_rest starred (take n (x ∷ xs)) ≡ Some n) in
    let one : 1 ≡ size = cc in
    subst P one (omega arith, rw e refl)
comment_step starred x xs size false None e h behind = cc
comment_step starred x xs size false (Some m) e h behind =
    let P : ℕ → Type 0 = λ n. (n ≤ suc (length xs)) × (comment_rest starred (take n (x ∷ xs)) ≡ Some n) in
    let is : m + 1 ≡ size = cc in
    let more : suc m ≡ size = omega arith in
    let b = behind m refl in
    let found = b.1 in
    subst P more (omega (arith, b.0), rw (e, found) (ap Some (omega arith)))

-- a comment's end is found in the bytes up to it
pub comment_take : (starred : Bool) (xs : List ℕ) (size : ℕ) → comment_rest starred xs ≡ Some size → (size ≤ length xs) × (comment_rest starred (take size xs) ≡ Some size)
unfolding comment_rest
comment_take starred [] size h = cc
comment_take starred (x ∷ xs) size h =
    comment_step starred x xs size (ends_comment starred x) (comment_rest (x == star) xs) refl h (λ m e. comment_take (x == star) xs m e)

closing_step : (escaped : Bool) (quote x : ℕ) (xs : List ℕ) (before n : ℕ) (t u : Bool) (r : Option ℕ) → (x == line_feed) ≡ t → closes escaped quote x ≡ u → cond t None (cond u (Some 0) (option_map (λ n. n + 1) r)) ≡ Some before → before < suc n → ((m : ℕ) → r ≡ Some m → m < n → (m < length xs) × (closing (escapes escaped x) quote (take n xs) ≡ Some m)) → (before < suc (length xs)) × (closing escaped quote (x ∷ take n xs) ≡ Some before)
unfolding closing
closing_step escaped quote x xs before n true u r e f h less behind = cc
closing_step escaped quote x xs before n false true r e f h less behind =
    let none : 0 ≡ before = cc in
    (omega arith, rw (e, f) h)
closing_step escaped quote x xs before n false false None e f h less behind = cc
closing_step escaped quote x xs before n false false (Some m) e f h less behind =
    let is : m + 1 ≡ before = cc in
    let b = behind m refl (omega arith) in
    let found = b.1 in
    (omega (arith, b.0), rw (e, f, found) h)

-- a closing quote is found in more bytes than stand before it
pub closing_take : (escaped : Bool) (quote : ℕ) (xs : List ℕ) (before n : ℕ) → closing escaped quote xs ≡ Some before → before < n → (before < length xs) × (closing escaped quote (take n xs) ≡ Some before)
unfolding closing
closing_take escaped quote [] before n h less = cc
closing_take escaped quote (x ∷ xs) before zero h less = absurd (omega arith)
closing_take escaped quote (x ∷ xs) before (suc n) h less =
    closing_step escaped quote x xs before n (x == line_feed) (closes escaped quote x) (closing (escapes escaped x) quote xs) refl refl h less (λ m e l. closing_take (escapes escaped x) quote xs m n e l)
