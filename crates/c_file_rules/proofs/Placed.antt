-- A list of numbers beside the tree of their first places: what a number more changes.
use Rattle.std.proofs.Common.{◌≡◌, ℕ, suc, ◌+◌, ◌<◌, Bool, true, false, cond, eqb, List, [], ◌∷◌, ◌++◌, length, Some, None, refl, sym, ap, ◌∙◌, subst, arith, eqb-true}
use Rattle.std.specs.Prelude.{◌||◌, Option, is_some}
use Rattle.std.specs.BTreeMap.{BTreeMap, get, is_at, Updates, IsUnchanged}
use Rattle.std.specs.List.{list_any}
use Rattle.std.specs.Map.{lookup}
use Rattle.std.specs.Option.{option_or}
use Rattle.std.specs.Ordering.{nat_cmp}
use Rattle.c_file_rules.specs.Files.{place_from}
use Rattle.c_file_rules.specs.Kinds.{is_among}
use Rattle.c_file_rules.proofs.Indexed.{at_equal}

-- one is in the list where it has a place
some_by_test : (b : Bool) (n : ℕ) (o : Option ℕ) (c : Bool) → is_some o ≡ c → is_some (cond b (Some n) o) ≡ b || c
some_by_test true n o c h = refl
some_by_test false n o c h = h

pub place_is_some : (n one : ℕ) (list : List ℕ) → is_some (place_from n one list) ≡ is_among one list
place_is_some n one [] = refl
place_is_some n one (m ∷ list) = some_by_test (eqb m one) n (place_from (suc n) one list) (is_among one list) (place_is_some (suc n) one list)

-- behind the others
either_by_test : (b : Bool) (n : ℕ) (o p q : Option ℕ) → p ≡ option_or o q → cond b (Some n) p ≡ option_or (cond b (Some n) o) q
either_by_test true n o p q h = refl
either_by_test false n o p q h = h

pub place-push : (n one last : ℕ) (list : List ℕ) → place_from n one (list ++ last ∷ []) ≡ option_or (place_from n one list) (cond (eqb last one) (Some (n + length list)) None)
place-push n one last [] = ap (λ k. cond (eqb last one) (Some k) None) (let e : n ≡ n + 0 = omega arith in e)
place-push n one last (m ∷ list) =
    let further : suc n + length list ≡ n + suc (length list) = omega arith in
    either_by_test (eqb m one) n (place_from (suc n) one list) (place_from (suc n) one (list ++ last ∷ [])) (cond (eqb last one) (Some (n + suc (length list))) None)
    (place-push (suc n) one last list ∙ ap (λ k. option_or (place_from (suc n) one list) (cond (eqb last one) (Some k) None)) further)

module _ (list : List ℕ) (last : ℕ) (before after : BTreeMap ℕ ℕ) (known : (one : ℕ) → get nat_cmp before one ≡ place_from 0 one list) where
  first : (one : ℕ) → place_from 0 one (list ++ last ∷ []) ≡ option_or (place_from 0 one list) (cond (eqb last one) (Some (length list)) None)
  first one = place-push 0 one last list ∙ ap (λ k. option_or (place_from 0 one list) (cond (eqb last one) (Some k) None)) (let e : 0 + length list ≡ length list = omega arith in e)

  -- of a number that is there already the place stays
  pub place_known : is_some (get nat_cmp before last) ≡ true → (one : ℕ) → get nat_cmp before one ≡ place_from 0 one (list ++ last ∷ [])
  place_known there one = known one ∙ by_test (eqb last one) refl ∙ sym (first one)
    where
      or_some : (o p : Option ℕ) → is_some o ≡ true → o ≡ option_or o p
      or_some (Some x) p h = refl
      or_some None p h = cc

      or_none : (o : Option ℕ) → o ≡ option_or o None
      or_none (Some x) = refl
      or_none None = refl

      by_test : (b : Bool) → eqb last one ≡ b → place_from 0 one list ≡ option_or (place_from 0 one list) (cond b (Some (length list)) None)
      by_test false e = or_none (place_from 0 one list)
      by_test true e =
          let same = eqb-true last one e in
          or_some (place_from 0 one list) (Some (length list)) (ap is_some (sym (known one)) ∙ ap (λ k. is_some (get nat_cmp before k)) (sym same) ∙ there)

  pub place_new : is_some (get nat_cmp before last) ≡ false → Updates nat_cmp before after last (Some (length list)) → (one : ℕ) → get nat_cmp after one ≡ place_from 0 one (list ++ last ∷ [])
  place_new absent u one = u.0 one ∙ ap (λ b. cond b (Some (length list)) (get nat_cmp before one)) (at_equal last one) ∙ ap (cond (eqb last one) (Some (length list))) (known one) ∙ by_test (eqb last one) refl ∙ sym (first one)
    where
      none_or : (o : Option ℕ) (x : ℕ) → is_some o ≡ false → Some x ≡ option_or o (Some x)
      none_or None x h = refl
      none_or (Some y) x h = cc

      or_none : (o : Option ℕ) → o ≡ option_or o None
      or_none (Some x) = refl
      or_none None = refl

      by_test : (b : Bool) → eqb last one ≡ b → cond b (Some (length list)) (place_from 0 one list) ≡ option_or (place_from 0 one list) (cond b (Some (length list)) None)
      by_test false e = or_none (place_from 0 one list)
      by_test true e =
          let same = eqb-true last one e in
          none_or (place_from 0 one list) (length list) (ap is_some (sym (known one)) ∙ ap (λ k. is_some (get nat_cmp before k)) (sym same) ∙ absent)

-- the same numbers, and a tree that finds the same
pub place_same : (list others : List ℕ) (before after : BTreeMap ℕ ℕ) → ((one : ℕ) → get nat_cmp before one ≡ place_from 0 one list) → others ≡ list → IsUnchanged before after → (one : ℕ) → get nat_cmp after one ≡ place_from 0 one others
place_same list others before after h e u one = ap (λ (es : List (ℕ × ℕ)). lookup (is_at (nat_cmp one)) es) u ∙ h one ∙ ap (place_from 0 one) (sym e)
