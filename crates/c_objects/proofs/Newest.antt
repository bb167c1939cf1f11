-- A map that has where the newest of each number stands in a list, with one more of the list.
use Rattle.std.proofs.Common.{◌≡◌, ◌≢◌, ℕ, ◌+◌, ◌<◌, ◌≤◌, Bool, true, false, cond, eqb, List, [], ◌∷◌, ◌++◌, length, get_or, take, Option, Some, None, refl, sym, ap, ◌∙◌, arith}
use Rattle.std.specs.Prelude.{reverse, slice_get}
use Rattle.std.specs.List.{find}
use Rattle.std.specs.BTreeMap.{is_at}
use Rattle.std.specs.Ordering.{nat_cmp}
use Rattle.std.proofs.lemmas.List.{take_more, take_all, reverse-append}
use Rattle.std.proofs.lemmas.Option.{slice_get-get_or}
use Rattle.c_objects.specs.Contents.{at_index}
use Rattle.c_file_rules.proofs.Indexed.{at_equal}

pub newest_first : {A : Type 0} (xs : List A) (i : ℕ) (d : A) → i < length xs → reverse (take (i + 1) xs) ≡ get_or xs i d ∷ reverse (take i xs)
newest_first xs i d inside = ap reverse (take_more xs i d inside) ∙ reverse-append (take i xs) (get_or xs i d ∷ [])

module _ {A : Type 0} (number : A → ℕ) (xs : List A) (i : ℕ) (d : A) (old new : ℕ → Option ℕ) where
  chosen : (b : Bool) (n : ℕ) → i < length xs → at_index xs (old n) ≡ find (λ x. eqb (number x) n) (reverse (take i xs))
      → at_index xs (cond b (Some i) (old n)) ≡ cond b (Some (get_or xs i d)) (find (λ x. eqb (number x) n) (reverse (take i xs)))
  chosen true n inside h = slice_get-get_or xs i d inside
  chosen false n inside h = h

  pub newest_more : i < length xs → ((n : ℕ) → new n ≡ cond (is_at (nat_cmp (number (get_or xs i d))) n) (Some i) (old n))
      → ((n : ℕ) → at_index xs (old n) ≡ find (λ x. eqb (number x) n) (reverse (take i xs)))
      → (n : ℕ) → at_index xs (new n) ≡ find (λ x. eqb (number x) n) (reverse (take (i + 1) xs))
  newest_more inside step h n =
      ap (at_index xs) (step n ∙ ap (λ b. cond b (Some i) (old n)) (at_equal (number (get_or xs i d)) n))
      ∙ chosen (eqb (number (get_or xs i d)) n) n inside (h n)
      ∙ sym (ap (find (λ x. eqb (number x) n)) (newest_first xs i d inside))

pub newest_all : {A : Type 0} (number : A → ℕ) (xs : List A) (i : ℕ) (places : ℕ → Option ℕ) → length xs ≤ i
    → ((n : ℕ) → at_index xs (places n) ≡ find (λ x. eqb (number x) n) (reverse (take i xs)))
    → (n : ℕ) → at_index xs (places n) ≡ find (λ x. eqb (number x) n) (reverse xs)
newest_all number xs i places past h n = h n ∙ ap (λ ys. find (λ x. eqb (number x) n) (reverse ys)) (take_all i xs past)
