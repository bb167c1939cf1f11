-- What one step of the lexer leaves.
use Rattle.std.proofs.lemmas.Bool.{cases_Bool, or_cases, eqb-true, false≢true}
use Rattle.std.proofs.Common.{◌≡◌, ℕ, ◌+◌, ◌==◌, ◌&&◌, suc, inl, inr, true, false, List, [], ◌∷◌, take, drop, refl, sym, ap, ◌∙◌, arith, cond}
use Rattle.std.specs.List.{prefix_len}
use Rattle.form_reader.specs.Lexemes.{Run, Mark, Twin, is_blank, is_word, begins, line_after, longer, lexemes}

-- a blank at the front is passed
pub lexemes-blank : (line b : ℕ) (bytes : List ℕ) → is_blank b ≡ true → lexemes line (b ∷ bytes) ≡ lexemes (line_after b line) bytes
unfolding lexemes
lexemes-blank line b bytes blank = rw blank refl

-- a word byte that stands alone is a run
run_alone : (line b : ℕ) (bytes : List ℕ) → is_blank b ≡ false → is_word b ≡ true → begins is_word bytes ≡ false → lexemes line (b ∷ bytes) ≡ Run (b ∷ []) line ∷ lexemes line bytes
unfolding lexemes
run_alone line b bytes h w n = rw (h, w, n) refl

-- a word byte that touches a run goes onto it
run_more : (line b : ℕ) (bytes : List ℕ) → is_blank b ≡ false → is_word b ≡ true → begins is_word bytes ≡ true → lexemes line (b ∷ bytes) ≡ longer b line (lexemes line bytes)
unfolding lexemes
run_more line b bytes h w n = rw (h, w, n) refl

-- a mark
pub lexemes-mark : (line b : ℕ) (bytes : List ℕ) → is_blank b ≡ false → is_word b ≡ false → (b == 45 && begins (λ next. next == 45) bytes) ≡ false → lexemes line (b ∷ bytes) ≡ Mark b line ∷ lexemes line bytes
unfolding lexemes
lexemes-mark line b bytes h w t = rw (h, w, t) refl

-- two minus signs that touch
pub lexemes-twin : (line b : ℕ) (bytes : List ℕ) → is_blank b ≡ false → is_word b ≡ false → (b == 45 && begins (λ next. next == 45) bytes) ≡ true → lexemes line (b ∷ bytes) ≡ Twin line ∷ lexemes line bytes
unfolding lexemes
lexemes-twin line b bytes h w t = rw (h, w, t) refl

-- no word byte is a blank
word_not_blank : (b : ℕ) → is_word b ≡ true → is_blank b ≡ false
word_not_blank b word =
    elim (cases_Bool (is_blank b)) [
      | inl blank ↦
          elim (or_cases (b == 32) (b == 10) blank) [
            | inl e ↦ absurd (false≢true (ap is_word (sym (eqb-true b 32 e)) ∙ word))
            | inr e ↦ absurd (false≢true (ap is_word (sym (eqb-true b 10 e)) ∙ word))
          ]
      | inr other ↦ other
    ]

one_more : (n : ℕ) → 1 + n ≡ suc n
one_more n = omega arith

-- a run goes on to the first byte that is no word byte
run_after : (line b : ℕ) (bytes : List ℕ) → is_word b ≡ true → lexemes line (b ∷ bytes) ≡ Run (b ∷ take (prefix_len is_word bytes) bytes) line ∷ lexemes line (drop (prefix_len is_word bytes) bytes)
run_after line b [] word = run_alone line b [] (word_not_blank b word) word refl
run_after line b (next ∷ bytes) word =
    elim (cases_Bool (is_word next)) [
      | inl more ↦
          run_more line b (next ∷ bytes) (word_not_blank b word) word more
          ∙ (ap (longer b line) (run_after line next bytes more) ∙ sym (ap (λ (n : ℕ). Run (b ∷ take n (next ∷ bytes)) line ∷ lexemes line (drop n (next ∷ bytes))) (ap (λ t. cond t (1 + prefix_len is_word bytes) 0) more ∙ one_more (prefix_len is_word bytes))))
      | inr none ↦
          run_alone line b (next ∷ bytes) (word_not_blank b word) word none
          ∙ sym (ap (λ (n : ℕ). Run (b ∷ take n (next ∷ bytes)) line ∷ lexemes line (drop n (next ∷ bytes))) (ap (λ t. cond t (1 + prefix_len is_word bytes) 0) none))
    ]

-- a file that begins with a word byte begins with a run
pub lexemes-run : (line : ℕ) (bytes : List ℕ) → begins is_word bytes ≡ true → lexemes line bytes ≡ Run (take (prefix_len is_word bytes) bytes) line ∷ lexemes line (drop (prefix_len is_word bytes) bytes)
lexemes-run line [] word = absurd (false≢true word)
lexemes-run line (b ∷ bytes) word =
    run_after line b bytes word ∙ sym (ap (λ (n : ℕ). Run (take n (b ∷ bytes)) line ∷ lexemes line (drop n (b ∷ bytes))) (ap (λ t. cond t (1 + prefix_len is_word bytes) 0) word ∙ one_more (prefix_len is_word bytes)))

-- nothing stands in no bytes
pub lexemes-none : (line : ℕ) → lexemes line [] ≡ []
unfolding lexemes
lexemes-none line = refl
