-- What the code keeps beside a list of numbers to find the first place of each by a tree.
use Rattle.std.specs.Prelude.{◌≡◌, ◌<◌, ◌^◌, ℕ, List, length}
use Rattle.std.specs.BTreeMap.{BTreeMap, get}
use Rattle.std.specs.Ordering.{nat_cmp}
use Rattle.c_file_rules.specs.Files.{place_from}

-- the tree has the first place of each number
pub record IsPlacedBy (list : List ℕ) (places : BTreeMap ℕ ℕ) : Type 0 where
  pub place : (one : ℕ) → get nat_cmp places one ≡ place_from 0 one list
  pub few : length list < 2 ^ 32
