-- What is kept of a list of what may be missing.
use Rattle.std.proofs.Common.{◌≡◌, List, [], ◌∷◌, ◌++◌, refl}
use Rattle.std.specs.Prelude.{Option, Some, None}
use Rattle.c_cursor.proofs.Loops.{Keeps}
use Rattle.c_syntax.specs.Values.{present}

one : {A : Type 0} (a : Option A) (y : List (Option A)) → present (a ∷ y) ≡ present (a ∷ []) ++ present y
one None y = refl
one (Some a) y = refl

pub keeps_present : {A : Type 0} → Keeps {A = Option A} {B = A} present
keeps_present = record { none = refl; one = one }
