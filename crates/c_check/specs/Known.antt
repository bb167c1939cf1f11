-- The locals of each function whose address is taken, as a list.
use Rattle.std.specs.Prelude.{ℕ, List, [], map, Option, Some, None}
use Rattle.c_file_rules.specs.declared.made.Made.{Made}

abbrev pub taken_lists : List Made → List (List ℕ)
taken_lists functions = map (λ (m : Made). m.taken) functions

-- none of a function that isn't there
abbrev pub locals_or_none : Option (List ℕ) → List ℕ
locals_or_none None = []
locals_or_none (Some locals) = locals
