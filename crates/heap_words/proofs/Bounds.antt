-- What an operation leaves is a word.
use Rattle.std.proofs.Common.{ℕ, ◌^◌, ◌<◌, if◌then◌else◌, List, length, slice_index, subst, sym, inl, inr, arith}
use Rattle.std.proofs.lemmas.Bool.{cases_eq, cases_lt}
use Rattle.std.proofs.lemmas.List.{get_or-set_same, get_or-set_other, set_past}
use Rattle.std.proofs.lemmas.Nat.{or_lt}
use Rattle.heap_words.specs.Operations.{place_of, word_after, words_after, AreWords, FitsWord}
use Rattle.heap_words.specs.declared.op.WordOp.{WordOp}
use Rattle.heap_words.specs.declared.op.WordOp.TheVariants.{Load, Store, Swap, Add, Or, Max, Exchange}
use Rattle.heap_words.proofs.Rules.{by_equal}

word_after-small : (op : WordOp) (word : ℕ) → FitsWord op → word < 2 ^ 64 → word_after op word < 2 ^ 64
word_after-small (Load place) word fits small = small
word_after-small (Store place new) word fits small = fits.1
word_after-small (Swap place new) word fits small = fits.1
word_after-small (Add place number) word fits small = omega arith
word_after-small (Or place bits) word fits small = or_lt 64 word bits small fits.1
word_after-small (Max place number) word fits small = omega (arith, fits.1)
word_after-small (Exchange place expected new) word fits small = by_equal (λ b. (if b then new else word) < 2 ^ 64) word expected (λ _. fits.2) (λ _. small)

pub words_after-small : (op : WordOp) (words : List ℕ) → FitsWord op → AreWords words → AreWords (words_after op words)
words_after-small op words fits are place =
    elim (cases_eq place (place_of op)) [
      | inl here ↦ elim (cases_lt (place_of op) (length words)) [
        | inl inside ↦ subst (λ p. slice_index (words_after op words) p < 2 ^ 64) (sym here) (subst (λ w. w < 2 ^ 64) (sym (get_or-set_same words (place_of op) (word_after op (slice_index words (place_of op))) 0 inside)) (word_after-small op (slice_index words (place_of op)) fits (are (place_of op))))
        | inr outside ↦ subst (λ ws. slice_index ws place < 2 ^ 64) (sym (set_past words (place_of op) (word_after op (slice_index words (place_of op))) outside)) (are place)
      ]
      | inr other ↦ subst (λ w. w < 2 ^ 64) (sym (get_or-set_other words (place_of op) place (word_after op (slice_index words (place_of op))) 0 other)) (are place)
    ]
