-- A list with one element changed, and one with an element more.
use Rattle.std.proofs.Common.{◌≡◌, ◌≢◌, ⊎_elim, ℕ, zero, suc, List, [], ◌∷◌, ◌++◌, length, map, Option, Some, None, refl, sym, ◌∙◌, ap, subst, arith}
use Rattle.std.proofs.lemmas.Bool.{cases_eq}
use Rattle.std.specs.Prelude.{slice_get, option_map}
use Rattle.ideal_machine.specs.Words.{set_with, with_element}

set_with-cons :
    {A : Type 0} (x : A) (xs : List A) (n : ℕ) (change : A → A) (o : Option A) →
    set_with (x ∷ xs) (suc n) change o ≡ x ∷ set_with xs n change o
set_with-cons x xs n change None = refl
set_with-cons x xs n change (Some y) = refl

pub with_element-cons :
    {A : Type 0} (x : A) (xs : List A) (n : ℕ) (change : A → A) →
    with_element (x ∷ xs) (suc n) change ≡ x ∷ with_element xs n change
with_element-cons x xs n change = set_with-cons x xs n change (slice_get xs n)

pub get-with_same :
    {A : Type 0} (xs : List A) (n : ℕ) (change : A → A) → slice_get (with_element xs n change) n ≡ option_map change (slice_get xs n)
get-with_same [] n change = refl
get-with_same (x ∷ xs) zero change = refl
get-with_same (x ∷ xs) (suc n) change =
    ap (λ l. slice_get l (suc n)) (with_element-cons x xs n change) ∙ get-with_same xs n change

pub get-with_other :
    {A : Type 0} (xs : List A) (n k : ℕ) (change : A → A) → k ≢ n → slice_get (with_element xs n change) k ≡ slice_get xs k
get-with_other [] n k change ne = refl
get-with_other (x ∷ xs) zero zero change ne = absurd (ne refl)
get-with_other (x ∷ xs) zero (suc k) change ne = refl
get-with_other (x ∷ xs) (suc n) zero change ne = ap (λ l. slice_get l zero) (with_element-cons x xs n change)
get-with_other (x ∷ xs) (suc n) (suc k) change ne =
    let ne' : k ≢ n = omega (arith, ne) in
    ap (λ l. slice_get l (suc k)) (with_element-cons x xs n change) ∙ get-with_other xs n k change ne'

pub length-with_element : {A : Type 0} (xs : List A) (n : ℕ) (change : A → A) → length (with_element xs n change) ≡ length xs
length-with_element [] n change = refl
length-with_element (x ∷ xs) zero change = refl
length-with_element (x ∷ xs) (suc n) change =
    ap length (with_element-cons x xs n change) ∙ ap (λ (k : ℕ). suc k) (length-with_element xs n change)

-- what a change leaves of each element is left of the list
pub map-with_element :
    {A B : Type 0} (view : A → B) (xs : List A) (n : ℕ) (change : A → A) → ((x : A) → view (change x) ≡ view x) →
    map view (with_element xs n change) ≡ map view xs
map-with_element view [] n change same = refl
map-with_element view (x ∷ xs) zero change same = ap (λ y. y ∷ map view xs) (same x)
map-with_element view (x ∷ xs) (suc n) change same =
    ap (map view) (with_element-cons x xs n change) ∙ ap (λ ys. view x ∷ ys) (map-with_element view xs n change same)

-- an element that is there is there with a list behind it, changed alike
pub get-map_append :
    {A B : Type 0} (change : A → B) (xs : List A) (ys : List B) (k : ℕ) (x : A) → slice_get xs k ≡ Some x →
    slice_get (map change xs ++ ys) k ≡ Some (change x)
get-map_append change [] ys k x e = absurd (cc)
get-map_append change (y ∷ xs) ys zero x e = ap (option_map change) e
get-map_append change (y ∷ xs) ys (suc k) x e = get-map_append change xs ys k x e

-- where an element of a changed list came from
pub data FromElement {A : Type 0} (xs : List A) (n : ℕ) (change : A → A) (k : ℕ) (y : A) : Type 0 where
  as_it_was : slice_get xs k ≡ Some y → FromElement xs n change k y
  as_changed : (x : A) → slice_get xs k ≡ Some x → k ≡ n → y ≡ change x → FromElement xs n change k y

from_changed :
    {A : Type 0} (xs : List A) (n : ℕ) (change : A → A) (k : ℕ) (y : A) (o : Option A) → slice_get xs k ≡ o → k ≡ n →
    option_map change o ≡ Some y → FromElement xs n change k y
from_changed xs n change k y None at is e = absurd (cc)
from_changed xs n change k y (Some x) at is e = as_changed x at is (cc)

pub element_from :
    {A : Type 0} (xs : List A) (n : ℕ) (change : A → A) (k : ℕ) (y : A) → slice_get (with_element xs n change) k ≡ Some y →
    FromElement xs n change k y
element_from xs n change k y e =
    ⊎_elim
    (λ same.
    let at = subst (λ i. slice_get (with_element xs n change) i ≡ Some y) same e in
    let is : slice_get xs n ≡ slice_get xs k = ap (slice_get xs) (sym same) in
    from_changed xs n change k y (slice_get xs k) refl same
    (sym (ap (option_map change) is) ∙ (sym (get-with_same xs n change) ∙ at)))
    (λ other. as_it_was (sym (get-with_other xs n k change other) ∙ e))
    (cases_eq k n)

-- an element of a list with one more: one of the list's, changed, or the one more
pub data FromAdded {A : Type 0} (xs : List A) (change : A → A) (last : A) (k : ℕ) (y : A) : Type 0 where
  earlier : (x : A) → slice_get xs k ≡ Some x → y ≡ change x → FromAdded xs change last k y
  added : k ≡ length xs → y ≡ last → FromAdded xs change last k y

pub added_from :
    {A : Type 0} (xs : List A) (change : A → A) (last : A) (k : ℕ) (y : A) →
    slice_get (map change xs ++ last ∷ []) k ≡ Some y → FromAdded xs change last k y
added_from [] change last zero y e = added refl (cc)
added_from [] change last (suc k) y e = absurd (cc)
added_from (x ∷ xs) change last zero y e = earlier x refl (cc)
added_from (x ∷ xs) change last (suc k) y e = behind (added_from xs change last k y e)
  where
    behind : FromAdded xs change last k y → FromAdded (x ∷ xs) change last (suc k) y
    behind (earlier z at is) = earlier z at is
    behind (added at is) = added (omega (arith, at)) is
