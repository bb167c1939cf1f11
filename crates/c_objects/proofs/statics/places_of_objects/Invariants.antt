-- The newest of each number among those so far is where the map says.
use Rattle.std.proofs.Common.{◌≡◌, ℕ, eqb, take}
use Rattle.std.specs.Prelude.{reverse}
use Rattle.std.specs.BTreeMap.{get}
use Rattle.std.specs.List.{find}
use Rattle.std.specs.Ordering.{nat_cmp}
use Rattle.c_objects.specs.Contents.{at_index, number_placed}
use Rattle.c_objects.proofs.statics.places_of_objects.Given as goal

abbrev pub invariant-objects : goal.invariant-objects
invariant-objects l =
    (n : ℕ) → at_index l.placed (get nat_cmp l.places n) ≡ find (λ x. eqb (number_placed x) n) (reverse (take l.index l.placed))
