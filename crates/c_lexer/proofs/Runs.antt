-- Lemmas on a run of bytes of one class at the front, and on comments.
use Rattle.std.proofs.Common.{◌≡◌, ℕ, ◌+◌, ◌==◌, ◌<◌, ◌≤◌, List, Option, Some, None, Bool, true, false, cond, refl, arith, length, drop, get_or, ap, sym, ◌∙◌, add-one, drop-cons}
use Rattle.std.proofs.lemmas.List.{drop_all}
use Rattle.std.proofs.lemmas.List.Sums.{prefix_len_is}
use Rattle.std.specs.List.{prefix_len}
use Rattle.std.specs.Option.{option_map}
use Rattle.c_lexer.specs.Classes.{star}
use Rattle.c_lexer.specs.Front.{comment_rest, ends_comment}
use Rattle.c_lexer.proofs.Quotes.{shifts}

-- the first n bytes are of the class
abbrev pub IsRun : (ℕ → Bool) → List ℕ → ℕ → Type 0
IsRun class text n = (k : ℕ) → k < n → class (get_or text k 0) ≡ true

-- the run ends at a byte of another class
pub run_stops : (class : ℕ → Bool) (text : List ℕ) (n : ℕ) → n < length text → IsRun class text n → class (get_or text n 0) ≡ false → n ≡ prefix_len class text
run_stops class text n within run stops = sym (prefix_len_is class text n 0 (omega arith) run (λ _. stops))

-- the run goes to the end
pub run_ends : (class : ℕ → Bool) (text : List ℕ) (n : ℕ) → n ≤ length text → length text ≤ n → IsRun class text n → length text ≡ prefix_len class text
run_ends class text n within all run =
    sym (prefix_len_is class text (length text) 0 (omega arith) (λ k h. run k (omega arith)) (λ h. absurd (omega arith)))

comment_rest-drop : (starred : Bool) (xs : List ℕ) (i : ℕ) → i < length xs → comment_rest starred (drop i xs) ≡ cond (ends_comment starred (get_or xs i 0)) (Some 1) (option_map (λ n. n + 1) (comment_rest (get_or xs i 0 == star) (drop (i + 1) xs)))
unfolding comment_rest
comment_rest-drop starred xs i h = rw (add-one, drop-cons xs i 0) refl

pub comment_ends : (starred : Bool) (xs : List ℕ) (i : ℕ) (whole : Option ℕ) → i < length xs → true ≡ ends_comment starred (get_or xs i 0) → whole ≡ option_map (λ n. n + i) (comment_rest starred (drop i xs)) → Some (i + 1) ≡ whole
comment_ends starred xs i whole h is e =
    let here : comment_rest starred (drop i xs) ≡ Some 1 = comment_rest-drop starred xs i h ∙ rw (← is) refl in
    sym (e ∙ ap (option_map (λ n. n + i)) here ∙ ap Some (omega arith))

pub comment_on : (starred next : Bool) (xs : List ℕ) (i : ℕ) (whole : Option ℕ) → i < length xs → false ≡ ends_comment starred (get_or xs i 0) → next ≡ (get_or xs i 0 == star) → whole ≡ option_map (λ n. n + i) (comment_rest starred (drop i xs)) → whole ≡ option_map (λ n. n + (i + 1)) (comment_rest next (drop (i + 1) xs))
comment_on starred next xs i whole h is next_is e =
    let behind = comment_rest (get_or xs i 0 == star) (drop (i + 1) xs) in
    let here : comment_rest starred (drop i xs) ≡ option_map (λ n. n + 1) behind = comment_rest-drop starred xs i h ∙ rw (← is) refl in
    e ∙ ap (option_map (λ n. n + i)) here ∙ shifts behind i ∙ ap (λ b. option_map (λ n. n + (i + 1)) (comment_rest b (drop (i + 1) xs))) (sym next_is)

pub comment_none : (starred : Bool) (xs : List ℕ) (i : ℕ) (whole : Option ℕ) → length xs ≤ i → whole ≡ option_map (λ n. n + i) (comment_rest starred (drop i xs)) → None ≡ whole
unfolding comment_rest
comment_none starred xs i whole h e = sym (e ∙ ap (λ ys. option_map (λ n. n + i) (comment_rest starred ys)) (drop_all i xs h))
