-- A list beside the tree of the numbers of its elements: what an element more changes.
use Rattle.std.proofs.Common.{◌≡◌, ℕ, Bool, true, false, cond, eqb, ltb, List, [], ◌∷◌, ◌++◌, Some, None, refl, sym, ap, ◌∙◌, arith, eqb-true, ltb-true}
use Rattle.std.specs.Prelude.{◌||◌, Option, is_some}
use Rattle.std.specs.BTreeMap.{BTreeMap, get, is_at, Updates, IsUnchanged}
use Rattle.std.specs.List.{list_any}
use Rattle.std.specs.Map.{lookup}
use Rattle.std.specs.declared.cmp.Ordering.TheVariants.{Less, Equal, Greater}
use Rattle.std.specs.Ordering.{nat_cmp, is_eq}
use Rattle.c_file_rules.specs.Indexes.{IsIndexOf}

or_assoc : (a b c : Bool) → (a || b) || c ≡ a || (b || c)
or_assoc true b c = refl
or_assoc false b c = refl

or_false : (a : Bool) → a || false ≡ a
or_false true = refl
or_false false = refl

-- an element more at the end
pub any-push : {A : Type 0} (test : A → Bool) (items : List A) (x : A) → list_any test (items ++ x ∷ []) ≡ list_any test items || test x
any-push test [] x = or_false (test x)
any-push test (y ∷ items) x = ap (λ b. test y || b) (any-push test items x) ∙ sym (or_assoc (test y) (list_any test items) (test x))

-- two numbers are the same key where they are equal
pub at_equal : (k n : ℕ) → is_at (nat_cmp k) n ≡ eqb k n
at_equal k n = by_tests (ltb k n) (eqb k n) refl refl
  where
    by_tests : (a b : Bool) → ltb k n ≡ a → eqb k n ≡ b → is_eq (cond a Less (cond b Equal Greater)) ≡ b
    by_tests true true p q =
        let less = ltb-true k n p in
        let same = eqb-true k n q in
        absurd (omega arith)
    by_tests true false p q = refl
    by_tests false true p q = refl
    by_tests false false p q = refl

some_or : (b : Bool) (o : Option (Unit {0})) → is_some (cond b (Some tt) o) ≡ is_some o || b
some_or true None = refl
some_or true (Some x) = refl
some_or false None = refl
some_or false (Some x) = refl

pub index_push :
    {A : Type 0} (key : A → ℕ) (items : List A) (x : A) (before after : BTreeMap ℕ (Unit {0})) → IsIndexOf key items before →
    Updates nat_cmp before after (key x) (Some tt) → IsIndexOf key (items ++ x ∷ []) after
index_push {A} key items x before after h u n =
    let test : A → Bool = λ a. eqb (key a) n in
    ap is_some (u.0 n) ∙ some_or (is_at (nat_cmp (key x)) n) (get nat_cmp before n) ∙ ap (λ b. b || is_at (nat_cmp (key x)) n) (h n)
    ∙ ap (λ b. list_any test items || b) (at_equal (key x) n) ∙ sym (any-push test items x)

-- the same elements, and a tree that finds the same
pub index_same :
    {A : Type 0} (key : A → ℕ) (items others : List A) (before after : BTreeMap ℕ (Unit {0})) → IsIndexOf key items before →
    others ≡ items → IsUnchanged before after → IsIndexOf key others after
index_same {A} key items others before after h e u n =
    ap (λ (es : List (ℕ × Unit {0})). is_some (lookup (is_at (nat_cmp n)) es)) u ∙ h n ∙ ap (list_any (λ (a : A). eqb (key a) n)) (sym e)
