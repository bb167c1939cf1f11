-- The list of locals whose address is taken says of each function what the definition says.
use Rattle.std.proofs.Common.{◌≡◌, ℕ, zero, suc, List, [], ◌∷◌, refl}
use Rattle.std.specs.Prelude.{slice_get}
use Rattle.c_file_rules.specs.Files.{taken_in}
use Rattle.c_file_rules.specs.declared.made.Made.{Made}
use Rattle.c_check.specs.Known.{taken_lists, locals_or_none}

pub taken_by : (functions : List Made) (n : ℕ) → locals_or_none (slice_get (taken_lists functions) n) ≡ taken_in functions n
taken_by [] n = refl
taken_by (m ∷ functions) zero = refl
taken_by (m ∷ functions) (suc n) = taken_by functions n
