-- Lists that are gone through one by one, and outcomes.
use Rattle.std.proofs.Common.{◌≡◌, ℕ, ◌+◌, ◌<◌, List, ◌∷◌, length, get_or, drop, Result, Ok, Err, sym, ap, ◌∙◌, drop-cons, add-one}
use Rattle.std.specs.Result.{OnOk}

-- what is left at an index is the element there and what is left behind it
pub left_with : {A : Type 0} (xs : List A) (i : ℕ) (d : A) → i < length xs → drop i xs ≡ get_or xs i d ∷ drop (i + 1) xs
left_with xs i d h = drop-cons xs i d h ∙ ap (λ n. get_or xs i d ∷ drop n xs) (sym (add-one i))

-- what follows from a fact of an outcome that is `Ok`
pub on_ok : {T F : Type 0} (r : Result T F) (P Q : Type 0) → (P → Q) → OnOk r P → OnOk r Q
on_ok (Ok x) P Q f h = f h
on_ok (Err e) P Q f h = h
