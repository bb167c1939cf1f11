-- Lists of tokens: what holds of all, of their parts, and of two lists side by side.
use Rattle.std.proofs.Common.{◌≡◌, ℕ, zero, suc, ◌<◌, ◌&&◌, List, [], ◌∷◌, ◌++◌, Bool, true, false, refl, ap, sym, ◌∙◌, arith, length, get_or, take, drop, Some}
use Rattle.std.proofs.lemmas.Bool.{and_parts}
use Rattle.std.specs.List.{list_all, slice_get}
use Rattle.c_lexer.specs.declared.token.Token.{Token}
use Rattle.c_preproc.specs.Texts.{same_token, same_tokens}

pub and_false : (b : Bool) → (b && false) ≡ false
and_false true = refl
and_false false = refl

pub and_false_of : (a b : Bool) → b ≡ false → (a && b) ≡ false
and_false_of a b e = rw e (and_false a)

pub false_and : (a b : Bool) → a ≡ false → (a && b) ≡ false
false_and a b e = rw e refl

pub and_true : (a b : Bool) → a ≡ true → b ≡ true → (a && b) ≡ true
and_true a b e f = rw (e, f) refl

-- what holds of all, of one
pub all_at : {X : Type 0} (p : X → Bool) (xs : List X) (i : ℕ) (d : X) → i < length xs → list_all p xs ≡ true → p (get_or xs i d) ≡ true
all_at p [] i d h all = absurd (omega arith)
all_at p (x ∷ xs) zero d h all = (and_parts (p x) (list_all p xs) all).0
all_at p (x ∷ xs) (suc i) d h all = all_at p xs i d (omega arith) (and_parts (p x) (list_all p xs) all).1

pub all_drop : {X : Type 0} (p : X → Bool) (n : ℕ) (xs : List X) → list_all p xs ≡ true → list_all p (drop n xs) ≡ true
all_drop p zero xs all = all
all_drop p (suc n) [] all = all
all_drop p (suc n) (x ∷ xs) all = all_drop p n xs (and_parts (p x) (list_all p xs) all).1

pub all_take : {X : Type 0} (p : X → Bool) (n : ℕ) (xs : List X) → list_all p xs ≡ true → list_all p (take n xs) ≡ true
all_take p zero xs all = refl
all_take p (suc n) [] all = refl
all_take p (suc n) (x ∷ xs) all =
    let both = and_parts (p x) (list_all p xs) all in
    rw (both.0, all_take p n xs both.1) refl

pub all_append : {X : Type 0} (p : X → Bool) (xs ys : List X) → list_all p xs ≡ true → list_all p ys ≡ true → list_all p (xs ++ ys) ≡ true
all_append p [] ys all more = more
all_append p (x ∷ xs) ys all more =
    let both = and_parts (p x) (list_all p xs) all in
    rw (both.0, all_append p xs ys both.1 more) refl

pub all_push : {X : Type 0} (p : X → Bool) (xs after : List X) (x : X) → after ≡ xs ++ x ∷ [] → list_all p xs ≡ true → p x ≡ true → list_all p after ≡ true
all_push p xs after x is all one = ap (list_all p) is ∙ all_append p xs (x ∷ []) all (rw one refl)

-- an element stays where it is in a longer list
pub slice_get_before : {X : Type 0} (xs more : List X) (i : ℕ) (x : X) → slice_get xs i ≡ Some x → slice_get (xs ++ more) i ≡ Some x
slice_get_before [] more i x h = cc
slice_get_before (y ∷ xs) more zero x h = h
slice_get_before (y ∷ xs) more (suc i) x h = slice_get_before xs more i x h

pub slice_get_last : {X : Type 0} (xs : List X) (x : X) (i : ℕ) → i ≡ length xs → slice_get (xs ++ x ∷ []) i ≡ Some x
slice_get_last [] x zero h = refl
slice_get_last [] x (suc i) h = absurd (omega arith)
slice_get_last (y ∷ xs) x zero h = absurd (omega arith)
slice_get_last (y ∷ xs) x (suc i) h = slice_get_last xs x i (omega arith)

-- ---- two lists of tokens

pub differ : (bytes : List ℕ) (a b : List Token) → (length a ≡ length b → ⊥) → false ≡ same_tokens bytes a b
differ bytes [] [] h = absurd (h refl)
differ bytes [] (y ∷ b) h = refl
differ bytes (x ∷ a) [] h = refl
differ bytes (x ∷ a) (y ∷ b) h =
    rw (← differ bytes a b (λ e. h (ap suc e))) (sym (and_false (same_token bytes x y)))
