-- One element of a list after the other, where each is found behind those before it.
use Rattle.std.proofs.Common.{◌≡◌, ℕ, ◌+◌, ◌<◌, ◌≤◌, List, [], ◌∷◌, length, get_or, drop, Err, sym, ap, ◌∙◌}
use Rattle.std.proofs.lemmas.List.{at_drop_more, at_drop_all}
use Rattle.c_expr_rules.specs.Outcomes.{State, Checked, Fine, next}
use Rattle.c_expr_rules.specs.Views.{Passes}
use Rattle.c_expr_rules.specs.declared.found.Fault.{Fault}
use Rattle.c_type_names.proofs.Chains.{failed_behind}
use Rattle.c_check_expr.proofs.Outcomes.{Fails, next_goes, behind_passed, fails_at}

module _ {A X : Type 0} (one : State → A → X → Checked A) (list : State → A → List X → Checked A)
    (ends : (s : State) (a : A) → list s a [] ≡ Fine s a)
    (goes : (s : State) (a : A) (x : X) (rest : List X) → list s a (x ∷ rest) ≡ next (one s a x) (λ s a. list s a rest)) where
  -- the element at this index is the next
  at_next : (s : State) (a : A) (xs : List X) (i : ℕ) (x : X) → i < length xs → x ≡ get_or xs i x → list s a (drop i xs) ≡ next (one s a x) (λ s a. list s a (drop (i + 1) xs))
  at_next s a xs i x within is =
      at_drop_more (list s a) xs i x within ∙ ap (λ y. list s a (y ∷ drop (i + 1) xs)) (sym is) ∙ goes s a x (drop (i + 1) xs)

  -- it is found
  pub list_goes : (s t : State) (a b : A) (xs : List X) (i : ℕ) (x : X) → i < length xs → x ≡ get_or xs i x → one s a x ≡ Fine t b → list s a (drop i xs) ≡ list t b (drop (i + 1) xs)
  list_goes s t a b xs i x within is found = at_next s a xs i x within is ∙ next_goes (one s a x) (λ s a. list s a (drop (i + 1) xs)) t b found

  -- it breaks a rule
  pub list_fails : (s t : State) (a : A) (xs : List X) (i : ℕ) (x : X) (f : Fault) → i < length xs → x ≡ get_or xs i x → Passes t (Err f) (one s a x) → Fails f (list s a (drop i xs))
  list_fails s t a xs i x f within is found =
      fails_at f (list s a (drop i xs)) (next (one s a x) (λ s a. list s a (drop (i + 1) xs))) (at_next s a xs i x within is)
      (behind_passed t f (one s a x) (λ s a. list s a (drop (i + 1) xs)) found)

  -- the same where it is known to fail by itself
  pub list_stops_at : (s : State) (a : A) (xs : List X) (i : ℕ) (x : X) (f : Fault) → i < length xs → x ≡ get_or xs i x → Fails f (one s a x) → Fails f (list s a (drop i xs))
  list_stops_at s a xs i x f within is h =
      fails_at f (list s a (drop i xs)) (next (one s a x) (λ s a. list s a (drop (i + 1) xs))) (at_next s a xs i x within is)
      (failed_behind f (one s a x) (λ s a. list s a (drop (i + 1) xs)) h)

  -- none is left
  pub list_ends : (s : State) (a : A) (xs : List X) (i : ℕ) → length xs ≤ i → list s a (drop i xs) ≡ Fine s a
  list_ends s a xs i past = at_drop_all (list s a) xs i past ∙ ends s a
