-- Loops that make the first contents and the static objects, one after another.
use Rattle.std.proofs.Common.{◌≡◌, ℕ, ◌+◌, ◌<◌, ◌≤◌, List, [], ◌∷◌, ◌++◌, length, get_or, take, arith, sym, ap, ◌∙◌}
use Rattle.std.specs.Prelude.{map, zip}
use Rattle.std.specs.List.{enumerate_from}
use Rattle.std.proofs.lemmas.List.{map_more, take_all}
use Rattle.std.proofs.lemmas.List.FromFn.{length-enumerate_from, get_or-enumerate_from}
use Rattle.std.proofs.lemmas.Slice.Zip.{length-zip, get_or-zip}

-- a list that has f of the first i elements gets the next
module _ {A C : Type 0} (f : A → C) (xs : List A) where
  next_made : (before now : List C) (y : C) (i : ℕ) (x : A) → i < length xs → get_or xs i x ≡ x → now ≡ before ++ y ∷ [] → before ≡ map f (take i xs) → y ≡ f x → now ≡ map f (take (i + 1) xs)
  next_made before now y i x here is e so_far made =
      e
      ∙ ap (λ (l : List C). l ++ y ∷ []) so_far
      ∙ ap (λ (c : C). map f (take i xs) ++ c ∷ []) (made ∙ ap f (sym is))
      ∙ sym (map_more f xs i x here)

  all_made : (i : ℕ) → length xs ≤ i → map f (take i xs) ≡ map f xs
  all_made i h = ap (λ (l : List A). map f l) (take_all i xs h)

module _ {A B C : Type 0} (f : A × B → C) (xs : List A) (ys : List B) where
  pub zipped_more : (before now : List C) (made : C) (i : ℕ) (x : A) (y : B) → i < length xs → i < length ys → x ≡ get_or xs i x → y ≡ get_or ys i y → now ≡ before ++ made ∷ [] → before ≡ map f (take i (zip xs ys)) → made ≡ f (x, y) → now ≡ map f (take (i + 1) (zip xs ys))
  zipped_more before now made i x y p q e d =
      let here : i < length (zip xs ys) = rw (length-zip xs ys) (omega (arith, p, q)) in
      let pair : get_or (zip xs ys) i (x, y) ≡ (x, y) =
      get_or-zip xs ys i (x, y) p q ∙ ap (λ (a : A). (a, get_or ys i y)) (sym e) ∙ ap (λ (b : B). (x, b)) (sym d) in
      next_made f (zip xs ys) before now made i (x, y) here pair

  pub zipped_all : (i : ℕ) → length xs ≤ i → map f (take i (zip xs ys)) ≡ map f (zip xs ys)
  zipped_all i h =
      let all : length (zip xs ys) ≤ i = rw (length-zip xs ys) (omega (arith, h)) in all_made f (zip xs ys) i all

module _ {A C : Type 0} (f : ℕ × A → C) (xs : List A) where
  pub numbered_more : (before now : List C) (made : C) (i : ℕ) (x : A) → i < length xs → get_or xs i x ≡ x → now ≡ before ++ made ∷ [] → before ≡ map f (take i (enumerate_from 0 xs)) → made ≡ f (i, x) → now ≡ map f (take (i + 1) (enumerate_from 0 xs))
  numbered_more before now made i x p e =
      let here : i < length (enumerate_from 0 xs) = rw (length-enumerate_from 0 xs) p in
      let zero_more : 0 + i ≡ i = omega arith in
      let pair : get_or (enumerate_from 0 xs) i (i, x) ≡ (i, x) =
      get_or-enumerate_from 0 xs i (i, x) p ∙ ap (λ (n : ℕ). (n, get_or xs i x)) zero_more ∙ ap (λ (a : A). (i, a)) e in
      next_made f (enumerate_from 0 xs) before now made i (i, x) here pair

  pub numbered_all : (i : ℕ) → length xs ≤ i → map f (take i (enumerate_from 0 xs)) ≡ map f (enumerate_from 0 xs)
  numbered_all i h =
      let all : length (enumerate_from 0 xs) ≤ i = rw (length-enumerate_from 0 xs) h in
      all_made f (enumerate_from 0 xs) i all
