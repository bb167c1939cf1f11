-- How pieces of a text are taken one after another.
use Rattle.std.proofs.Common.{◌≡◌, ℕ, ◌+◌, ◌<◌, zero, suc, List, [], ◌∷◌, ◌++◌, length, map, take, get_or, refl, sym, ap, ◌∙◌, arith, append_assoc, append-nil, length-append}
use Rattle.std.specs.Prelude.{Option, Some, None}
use Rattle.std.proofs.Math.Seq.{take-append-add}
use Rattle.std.proofs.lemmas.List.{take-append-le}
use Rattle.filc_io.specs.Outside.{append}
use Rattle.filc_top.specs.Writing.{concat}

append-append : (old : Option (List ℕ)) (a b : List ℕ) → append (append old a) b ≡ append old (a ++ b)
append-append None a b = refl
append-append (Some before) a b = ap (λ (x : List ℕ). Some x) (append_assoc before a b)

pub append-nothing : (old : Option (List ℕ)) → append old [] ≡ old
append-nothing None = refl
append-nothing (Some before) = ap (λ (x : List ℕ). Some x) (append-nil before)

-- the pieces in front, the next one, and those after it
concat-split :
    {A : Type 0} (f : A → List ℕ) (xs : List A) (i : ℕ) (d : A) → i < length xs →
    (after : List ℕ) × (concat (map f xs) ≡ concat (map f (take i xs)) ++ (f (get_or xs i d) ++ after)) × (concat (map f (take (suc i) xs)) ≡ concat (map f (take i xs)) ++ f (get_or xs i d))
concat-split f [] i d within = absurd (omega arith)
concat-split f (x ∷ xs) zero d within = (concat (map f xs), refl, append-nil (f x))
concat-split f (x ∷ xs) (suc i) d within =
    let rest = concat-split f xs i d (omega arith) in (
      rest.0,
      ap (λ (t : List ℕ). f x ++ t) rest.1 ∙ sym (append_assoc (f x) (concat (map f (take i xs))) (f (get_or xs i d) ++ rest.0)),
      ap (λ (t : List ℕ). f x ++ t) rest.2 ∙ sym (append_assoc (f x) (concat (map f (take i xs))) (f (get_or xs i d))),
    )

-- one more piece was taken
pub piece_taken :
    {A : Type 0} (f : A → List ℕ) (xs : List A) (i : ℕ) (d : A) (old now new : Option (List ℕ)) →
    i < length xs → now ≡ append old (concat (map f (take i xs))) → new ≡ append now (f (get_or xs i d)) →
    new ≡ append old (concat (map f (take (suc i) xs)))
piece_taken f xs i d old now new within so_far one =
    let split = concat-split f xs i d within in
    one ∙ (ap (λ (o : Option (List ℕ)). append o (f (get_or xs i d))) so_far ∙ (append-append old (concat (map f (take i xs))) (f (get_or xs i d)) ∙ ap (λ (t : List ℕ). append old t) (sym split.2)))

-- the sink failed within the next piece
pub piece_cut :
    {A : Type 0} (f : A → List ℕ) (xs : List A) (i : ℕ) (d : A) (old now new : Option (List ℕ)) (count : ℕ) →
    i < length xs → now ≡ append old (concat (map f (take i xs))) → count < length (f (get_or xs i d)) →
    new ≡ append now (take count (f (get_or xs i d))) →
    (all : ℕ) × (all < length (concat (map f xs))) × (new ≡ append old (take all (concat (map f xs))))
piece_cut f xs i d old now new count within so_far few cut =
    let split = concat-split f xs i d within in
    let front = concat (map f (take i xs)) in
    let piece = f (get_or xs i d) in
    let taken : take (length front + count) (concat (map f xs)) ≡ front ++ take count piece = ap (λ (t : List ℕ). take (length front + count) t) split.1 ∙ (take-append-add front (piece ++ split.0) count ∙ ap (λ (t : List ℕ). front ++ t) (take-append-le count piece split.0 (omega arith))) in (
      length front + count,
      omega (arith, ap length split.1, length-append front (piece ++ split.0), length-append piece split.0),
      cut ∙ (ap (λ (o : Option (List ℕ)). append o (take count piece)) so_far ∙ (append-append old front (take count piece) ∙ ap (λ (t : List ℕ). append old t) (sym taken))),
    )
