-- Inside a construct those locals have their address taken that are told of its function.
use Rattle.std.proofs.Common.{◌≡◌, ℕ, List, ap, subst, ◌∙◌, Option}
use Rattle.std.specs.Prelude.{Result, slice_get}
use Rattle.c_syntax.specs.declared.file.External.{External}
use Rattle.c_expr_rules.specs.declared.found.Fault.{Fault}
use Rattle.c_expr_rules.specs.Outcomes.{State}
use Rattle.c_expr_rules.specs.Views.{Passes}
use Rattle.c_names.specs.Around.{with_homes}
use Rattle.c_file_rules.specs.Constructs.{Here}
use Rattle.c_file_rules.specs.declared.made.Made.{Made}
use Rattle.c_check.specs.Going.{construct_at, external_at, number_of_item, taken_at}
use Rattle.c_check.specs.Known.{locals_or_none}

abbrev with_locals_at : Here → List ℕ → Here
with_locals_at here locals = record here { around = with_homes locals here.around }

pub construct_inside : (here : Here) (homes : List (List ℕ)) (locals : List ℕ) (n : ℕ) (s t : State) (item : External)
    (r : Result (Option Made) Fault) → locals ≡ locals_or_none (slice_get homes n) → n ≡ number_of_item here item
    → Passes t r (external_at here (with_locals_at here locals) s item) → Passes t r (construct_at here homes s item)
construct_inside here homes locals n s t item r l e p =
    subst (λ locals. Passes t r (external_at here (with_locals_at here locals) s item)) (l ∙ ap (taken_at homes) e) p
