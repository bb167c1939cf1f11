-- Constructs one after another.
use Rattle.std.proofs.Common.{◌≡◌, ℕ, ◌+◌, ◌<◌, ◌≤◌, List, ◌∷◌, ◌++◌, length, get_or, drop, refl, sym, ap, ◌∙◌, append_assoc, append-nil}
use Rattle.std.proofs.lemmas.List.{at_drop_more, at_drop_all}
use Rattle.c_expr_rules.specs.Outcomes.{State, Checked, Fine, Breaks, Broke, Broken, next}
use Rattle.c_file_rules.specs.Constructs.{in_order}

-- so many before those that are left
abbrev pub before : {A : Type 0} → List A → Checked (List A) → Checked (List A)
before xs c = next c (λ s more. Fine s (xs ++ more))

further : {A : Type 0} (xs first : List A) (c : Checked (List A))
    → before (xs ++ first) c ≡ before xs (next c (λ s more. Fine s (first ++ more)))
further xs first (Fine s more) = ap (Fine s) (append_assoc xs first more)
further xs first (Breaks b s known) = refl
further xs first (Broke b) = refl

next_fine : {A B : Type 0} (look : State → A → Checked (List B)) (x : A) (rest : List A) (s t : State) (made : List B)
    → look s x ≡ Fine t made → in_order look s (x ∷ rest) ≡ next (in_order look t rest) (λ s others. Fine s (made ++ others))
next_fine look x rest s t made e =
    ap (λ c. next c (λ s first. next (in_order look s rest) (λ s others. Fine s (first ++ others)))) e

next_broke : {A B : Type 0} (look : State → A → Checked (List B)) (x : A) (rest : List A) (s : State) (b : Broken)
    → look s x ≡ Broke b → in_order look s (x ∷ rest) ≡ Broke b
next_broke look x rest s b e =
    ap (λ c. next c (λ s first. next (in_order look s rest) (λ s others. Fine s (first ++ others)))) e

-- at the first of what is left
pub order_more : {A B : Type 0} (look : State → A → Checked (List B)) (xs : List A) (i : ℕ) (d : A) (s t : State) (done made : List B)
    → i < length xs → look s (get_or xs i d) ≡ Fine t made
    → before done (in_order look s (drop i xs)) ≡ before (done ++ made) (in_order look t (drop (i + 1) xs))
order_more look xs i d s t done made inside e =
    at_drop_more (λ ys. before done (in_order look s ys)) xs i d inside
    ∙ ap (before done) (next_fine look (get_or xs i d) (drop (i + 1) xs) s t made e)
    ∙ sym (further done made (in_order look t (drop (i + 1) xs)))

pub order_stopped : {A B : Type 0} (look : State → A → Checked (List B)) (xs : List A) (i : ℕ) (d : A) (s : State) (done : List B) (b : Broken)
    → i < length xs → look s (get_or xs i d) ≡ Broke b → before done (in_order look s (drop i xs)) ≡ Broke b
order_stopped look xs i d s done b inside e =
    at_drop_more (λ ys. before done (in_order look s ys)) xs i d inside
    ∙ ap (before done) (next_broke look (get_or xs i d) (drop (i + 1) xs) s b e)

pub order_ended : {A B : Type 0} (look : State → A → Checked (List B)) (xs : List A) (i : ℕ) (s : State) (done : List B) → length xs ≤ i
    → before done (in_order look s (drop i xs)) ≡ Fine s done
order_ended look xs i s done inside =
    at_drop_all (λ ys. before done (in_order look s ys)) xs i inside ∙ ap (Fine s) (append-nil done)
