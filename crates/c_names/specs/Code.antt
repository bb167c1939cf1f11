-- What the code is told, in the words of the definitions.
use Rattle.std.specs.Prelude.{ℕ, Bool, false, slice_get, Option, Some, None}
use Rattle.c_expr_rules.specs.Expressions.{Around}
use Rattle.c_names.specs.declared.facts.Facts.{Facts}
use Rattle.c_names.specs.declared.facts.Kinds.{Kinds}
use Rattle.c_names.specs.declared.facts.Kinds.TheVariants as kinds
use Rattle.c_file_rules.specs.Constructs.{Here}
use Rattle.c_file_rules.specs.Files.{number_of_function, kind_number}

-- how the types of functions are numbered: each by its own number, or by a list
abbrev pub kind_by : Kinds → ℕ → ℕ
kind_by kinds.Own ty = ty
kind_by (kinds.Listed list) ty = kind_number list ty

abbrev pub is_flagged : Option Bool → Bool
is_flagged None = false
is_flagged (Some flag) = flag

abbrev pub is_library_in : Facts → (token : ℕ) → Bool
is_library_in facts token = is_flagged (slice_get facts.library.items token)

abbrev pub function_number_in : Facts → Around → (takes_and_gives_int : Bool) → ℕ → ℕ
function_number_in facts around = number_of_function around.spelling facts.bodies

-- ---- what is round constructs

-- of a file, with these round its expressions
abbrev pub here_at : Facts → Around → Here
here_at facts around =
    record { around = around; function_number = function_number_in facts around; is_library = is_library_in facts }
