-- Lexemes that stand at the front of a list, one after another, and their texts.
use Rattle.std.proofs.Common.{◌≡◌, ℕ, ◌<◌, zero, suc, List, [], ◌∷◌, ◌++◌, length, map, take, get_or, refl, ap, ◌∙◌, arith}
use Rattle.form_reader.specs.Lexemes.{Lexeme}
use Rattle.form_reader.specs.Form.{text_of}

-- where the first i texts were taken, and all of them stand at the front, the next one stands here
pub next_stands : {A : Type 0} (f : A → List ℕ) (xs : List A) (d : A) (i : ℕ) (taken here front rest : List Lexeme) → i < length xs → map text_of taken ≡ map f (take i xs) → taken ++ here ≡ front ++ rest → map text_of front ≡ map f xs → (first : Lexeme) × (behind : List Lexeme) × (here ≡ first ∷ behind) × (text_of first ≡ f (get_or xs i d))
next_stands f [] d i taken here front rest within so_far stand all = absurd (omega arith)
next_stands f (x ∷ xs) d i taken here [] rest within so_far stand all = absurd cc
next_stands f (x ∷ xs) d zero [] here (l ∷ front) rest within so_far stand all =
    let first : text_of l ≡ f x = cc in
    (l, front ++ rest, stand, first)
next_stands f (x ∷ xs) d zero (t ∷ taken) here (l ∷ front) rest within so_far stand all = absurd cc
next_stands f (x ∷ xs) d (suc i) [] here (l ∷ front) rest within so_far stand all = absurd cc
next_stands f (x ∷ xs) d (suc i) (t ∷ taken) here (l ∷ front) rest within so_far stand all =
    let so : map text_of taken ≡ map f (take i xs) = cc in
    let behind : taken ++ here ≡ front ++ rest = cc in
    let others : map text_of front ≡ map f xs = cc in
    next_stands f xs d i taken here front rest (omega arith) so behind others

-- one more text was taken
pub taken_more : {A : Type 0} (f : A → List ℕ) (xs : List A) (d : A) (i : ℕ) (taken new : List Lexeme) (start here : List Lexeme) (l : Lexeme) → i < length xs → map text_of taken ≡ map f (take i xs) → start ≡ taken ++ here → here ≡ l ∷ new → text_of l ≡ f (get_or xs i d) → (more : List Lexeme) × (start ≡ more ++ new) × (map text_of more ≡ map f (take (suc i) xs))
taken_more f [] d i taken new start here l within so_far stand front text = absurd (omega arith)
taken_more f (x ∷ xs) d zero [] new start here l within so_far stand front text = (l ∷ [], stand ∙ front, ap (λ (t : List ℕ). t ∷ []) text)
taken_more f (x ∷ xs) d zero (t ∷ taken) new start here l within so_far stand front text = absurd cc
taken_more f (x ∷ xs) d (suc i) [] new start here l within so_far stand front text = absurd cc
taken_more f (x ∷ xs) d (suc i) (t ∷ taken) new start here l within so_far stand front text =
    let so : map text_of taken ≡ map f (take i xs) = cc in
    let head : text_of t ≡ f x = cc in
    let more = taken_more f xs d i taken new (taken ++ here) here l (omega arith) so refl front text in
    (t ∷ more.0, stand ∙ ap (λ (r : List Lexeme). t ∷ r) more.1, ap (λ (a : List ℕ). a ∷ map text_of more.0) head ∙ ap (λ (r : List (List ℕ)). f x ∷ r) more.2)

-- two fronts with the same texts, of which nothing else is known, are as long
pub same_front : (a b x y : List Lexeme) → map text_of a ≡ map text_of b → a ++ x ≡ b ++ y → (a ≡ b) × (x ≡ y)
same_front [] [] x y texts stand = (refl, stand)
same_front [] (l ∷ b) x y texts stand = absurd cc
same_front (k ∷ a) [] x y texts stand = absurd cc
same_front (k ∷ a) (l ∷ b) x y texts stand =
    let behind : map text_of a ≡ map text_of b = cc in
    let split : a ++ x ≡ b ++ y = cc in
    let first : k ≡ l = cc in
    let rest = same_front a b x y behind split in
    ((λ i. first i ∷ rest.0 i), rest.1)
