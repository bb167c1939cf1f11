-- What was put behind a list is taken back.
use Rattle.std.proofs.Common.{◌≡◌, true, false, List, [], ◌∷◌, ◌++◌, Some, None, Ok, Err, reverse, refl, sym, ap, ◌∙◌, length, length-append, arith}
use Rattle.std.specs.Prelude.{Option, MatchOption, Result, OnOk, OnErr}
use Rattle.std.specs.Result.{is_err}
use Rattle.std.proofs.lemmas.List.{reverse-append, reverse-reverse}

abbrev tail : {A : Type 0} → List A → List A
tail [] = []
tail (x ∷ xs) = xs

same_front : {A : Type 0} (xs new : List A) (x last : A) → xs ++ x ∷ [] ≡ new ++ last ∷ [] → new ≡ xs
same_front xs new x last p =
    let turned : x ∷ reverse xs ≡ last ∷ reverse new = sym (reverse-append xs (x ∷ [])) ∙ ap reverse p ∙ reverse-append new (last ∷ []) in
    sym (reverse-reverse new) ∙ ap reverse (sym (ap tail turned)) ∙ reverse-reverse xs

pub popped :
    {A : Type 0} (r : Option A) (xs old new : List A) (x : A) → old ≡ xs ++ x ∷ [] →
    MatchOption r ((old ≡ []) × (new ≡ [])) (λ last. old ≡ new ++ last ∷ []) → new ≡ xs
popped None xs old new x pushed h =
    let e = ap length (sym pushed ∙ h.0) in absurd (omega (arith, e, length-append xs (x ∷ [])))
popped (Some last) xs old new x pushed h = same_front xs new x last (sym pushed ∙ h)

-- ---- what holds where a result is known to be `Ok` or `Err`

pub on_ok : {T E : Type 0} (r : Result T E) (P : Type 0) → is_err r ≡ false → OnOk r P → P
on_ok (Ok x) P e h = h
on_ok (Err x) P e h = cc

pub on_err : {T E : Type 0} (r : Result T E) (P : Type 0) → is_err r ≡ true → OnErr r P → P
on_err (Ok x) P e h = cc
on_err (Err x) P e h = h
