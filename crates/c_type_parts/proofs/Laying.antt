-- What the list of members of a structure or union leaves in the state.
use Rattle.std.proofs.Common.{◌≡◌, ℕ, Bool, true, false, cond, eqb, Some, refl, sym, ap, ◌∙◌, eqb-true, eq-eqb}
use Rattle.std.specs.BTreeMap.{BTreeMap, get, Updates}
use Rattle.std.specs.Ordering.{nat_cmp}
use Rattle.c_file_rules.proofs.Indexed.{at_equal}
use Rattle.c_expr_rules.specs.Outcomes.{State}
use Rattle.c_expr_rules.specs.declared.state.Contents.{Contents}
use Rattle.c_expr_rules.specs.Views.{seen_state}
use Rattle.c_expr_rules.specs.declared.state.State.{State as Kept}
use Rattle.c_file_rules.specs.Tags.{with_contents}

-- the test of two numbers goes both ways
turned : (k n : ℕ) → eqb k n ≡ eqb n k
turned k n = by_tests (eqb k n) (eqb n k) refl refl
  where
    by_tests : (a b : Bool) → eqb k n ≡ a → eqb n k ≡ b → a ≡ b
    by_tests true true p q = refl
    by_tests false false p q = refl
    by_tests true false p q = sym (eq-eqb n k (sym (eqb-true k n p))) ∙ q
    by_tests false true p q = sym p ∙ eq-eqb k n (sym (eqb-true n k q))

-- the contents of a type are found by its number
contents_put :
    (before after : BTreeMap ℕ Contents) (number : ℕ) (c : Contents) → Updates nat_cmp before after number (Some c) →
    (n : ℕ) → get nat_cmp after n ≡ cond (eqb n number) (Some c) (get nat_cmp before n)
contents_put before after number c u n = u.0 n ∙ ap (λ b. cond b (Some c) (get nat_cmp before n)) (at_equal number n ∙ turned number n)

pub contents_are_put :
    (old : Kept) (after : BTreeMap ℕ Contents) (number : ℕ) (c : Contents) → Updates nat_cmp old.contents after number (Some c) →
    seen_state (record old { contents = after }) ≡ with_contents number c (seen_state old)
contents_are_put old after number c u =
    λ i. record (seen_state old) { contents = (λ n. contents_put old.contents after number c u n i) }
