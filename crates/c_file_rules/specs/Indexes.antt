-- What the code keeps beside a list to find its elements by a tree: the numbers that they are known by.
use Rattle.std.specs.Prelude.{◌≡◌, ℕ, ◌==◌, List, is_some}
use Rattle.std.specs.BTreeMap.{BTreeMap, get}
use Rattle.std.specs.List.{list_any}
use Rattle.std.specs.Ordering.{nat_cmp}
use Rattle.c_tree.specs.declared.stmt.Case.{Case}

-- the tree has the number of each element, and no other
abbrev pub IsIndexOf : {A : Type 0} → (A → ℕ) → List A → BTreeMap ℕ (Unit {0}) → Type 0
IsIndexOf {A} key items tree = (n : ℕ) → is_some (get nat_cmp tree n) ≡ list_any (λ (a : A). key a == n) items

-- a number is known by itself
abbrev pub own : ℕ → ℕ
own n = n

abbrev pub value_of_case : Case → ℕ
value_of_case c = c.value
