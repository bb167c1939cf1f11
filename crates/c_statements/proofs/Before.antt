-- Statements before those of a list that is left, as a loop over the list goes.
use Rattle.std.proofs.Common.{◌≡◌, ℕ, ◌+◌, ◌<◌, ◌≤◌, List, [], ◌∷◌, ◌++◌, length, get_or, drop, refl, sym, ap, ◌∙◌, append_assoc, append-nil}
use Rattle.std.specs.Prelude.{Err}
use Rattle.std.proofs.lemmas.List.{at_drop_all, at_drop_more}
use Rattle.c_tree.specs.declared.stmt.Stmt.{Stmt}
use Rattle.c_expr_rules.specs.Outcomes.{State, Checked, Fine, Breaks, Broke, next}
use Rattle.c_expr_rules.specs.Views.{Passes}
use Rattle.c_expr_rules.specs.declared.found.Fault.{Fault}
use Rattle.c_check_expr.proofs.Outcomes.{Fails, next_same, next_goes, behind_passed, fails_at}
use Rattle.c_file_rules.specs.Constructs.{in_order}
use Rattle.c_statements.proofs.Steps.{next_next, next_fails}

abbrev pub statements_before : List Stmt → Checked (List Stmt) → Checked (List Stmt)
statements_before xs c = next c (λ s more. Fine s (xs ++ more))

-- one more list before the rest
further :
    (xs first : List Stmt) (c : Checked (List Stmt)) →
    statements_before (xs ++ first) c ≡ statements_before xs (next c (λ s more. Fine s (first ++ more)))
further xs first (Fine s more) = ap (λ (l : List Stmt). Fine s l) (append_assoc xs first more)
further xs first (Breaks b s known) = refl
further xs first (Broke b) = refl

-- ---- a list of constructs, each of which gives statements

module _ {X : Type 0} (look : State → X → Checked (List Stmt)) where
  -- at the begin there are none before
  pub all_before : (s : State) (xs : List X) → statements_before [] (in_order look s xs) ≡ in_order look s xs
  all_before s [] = refl
  all_before s (x ∷ xs) =
      next_next (look s x) (λ s first. next (in_order look s xs) (λ s others. Fine s (first ++ others))) (λ s more. Fine s more)
      ∙ next_same (look s x) _ _ (λ s first. next_next (in_order look s xs) (λ s others. Fine s (first ++ others)) (λ s more. Fine s more))

  -- the element at this index is the next
  next_at : (s : State) (ys : List Stmt) (xs : List X) (i : ℕ) (x d : X) → i < length xs → x ≡ get_or xs i d →
      statements_before ys (in_order look s (drop i xs)) ≡ statements_before ys (next (look s x) (λ s first. next (in_order look s (drop (i + 1) xs)) (λ s others. Fine s (first ++ others))))
  next_at s ys xs i x d within is =
      at_drop_more (λ (l : List X). statements_before ys (in_order look s l)) xs i d within
      ∙ ap (λ (y : X). statements_before ys (in_order look s (y ∷ drop (i + 1) xs))) (sym is)

  -- it gives these
  pub list_goes :
      (s t : State) (ys first : List Stmt) (xs : List X) (i : ℕ) (x d : X) → i < length xs → x ≡ get_or xs i d → look s x ≡ Fine t first →
      statements_before (ys ++ first) (in_order look t (drop (i + 1) xs)) ≡ statements_before ys (in_order look s (drop i xs))
  list_goes s t ys first xs i x d within is found =
      let rest = λ (s : State) (first : List Stmt). next (in_order look s (drop (i + 1) xs)) (λ s others. Fine s (first ++ others)) in
      further ys first (in_order look t (drop (i + 1) xs))
      ∙ sym (ap (statements_before ys) (next_goes (look s x) rest t first found))
      ∙ sym (next_at s ys xs i x d within is)

  -- it breaks a rule
  pub list_fails :
      (s t : State) (ys : List Stmt) (xs : List X) (i : ℕ) (x d : X) (f : Fault) → i < length xs → x ≡ get_or xs i d → Passes t (Err f) (look s x) →
      Fails f (statements_before ys (in_order look s (drop i xs)))
  list_fails s t ys xs i x d f within is found =
      let rest = λ (s : State) (first : List Stmt). next (in_order look s (drop (i + 1) xs)) (λ s others. Fine s (first ++ others)) in
      fails_at f (statements_before ys (in_order look s (drop i xs))) (statements_before ys (next (look s x) rest)) (next_at s ys xs i x d within is)
      (next_fails f (next (look s x) rest) (λ s more. Fine s (ys ++ more)) (behind_passed t f (look s x) rest found))

  -- none is left
  pub list_ends : (s : State) (ys : List Stmt) (xs : List X) (i : ℕ) → length xs ≤ i → statements_before ys (in_order look s (drop i xs)) ≡ Fine s ys
  list_ends s ys xs i past =
      at_drop_all (λ (l : List X). statements_before ys (in_order look s l)) xs i past ∙ ap (λ (l : List Stmt). Fine s l) (append-nil ys)
