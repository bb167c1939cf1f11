-- The rules of a whole file, as the code looks at them.
use Rattle.std.specs.Prelude.{◌≡◌, ℕ, nat_lt, ◌==◌, is_none, List, [], ◌∷◌, length, if◌then◌else◌, Option, Some, None}
use Rattle.std.specs.BTreeMap.{BTreeMap, get}
use Rattle.std.specs.List.{filter_map}
use Rattle.std.specs.Option.{option_or}
use Rattle.std.specs.Ordering.{nat_cmp}
use Rattle.c_scope.specs.Blocks.{Naming}
use Rattle.c_tree.specs.declared.declared.Declared.{Declared}
use Rattle.c_tree.specs.declared.declared.Declared.TheVariants as declared
use Rattle.c_tree.specs.declared.declared.Definition.{Definition}
use Rattle.c_tree.specs.declared.declared.ObjectNumber.{ObjectNumber}
use Rattle.c_tree.specs.declared.declared.ObjectNumber.TheVariants.{Static, Local}
use Rattle.c_expr_rules.specs.declared.found.Broken.{Broken}
use Rattle.c_expr_rules.specs.Outcomes as o
use Rattle.c_expr_rules.specs.Outcomes.{State}
use Rattle.c_expr_rules.specs.Views.{seen_broken}
use Rattle.c_file_rules.specs.declared.made.Made.{Made}
use Rattle.c_file_rules.specs.Files.{at, least_with, first_line, first_of, first_broken, line_if, defines, definition_of, undefined_function, undefined_object, linked_in, too_many_values}

abbrev pub seen_some : Option Broken → Option o.Broken
seen_some None = None
seen_some (Some broken) = Some (seen_broken broken)

abbrev pub least : Option ℕ → Option ℕ → Option ℕ
least None before = before
least (Some line) before = least_with line before

-- the static object that is declared, and how far
abbrev pub defined_as : Definition → ObjectNumber → Option (ℕ × Definition)
defined_as d (Static n) = Some (n, d)
defined_as d (Local n) = None

abbrev pub defined_in : Declared → Option (ℕ × Definition)
defined_in (declared.Object o) = defined_as o.definition o.number
defined_in _ = None

-- the map has a declaration more
abbrev pub IsWith : Declared → (old new : BTreeMap ℕ Definition) → Type 0
IsWith what old new =
    (n : ℕ) → get nat_cmp new n ≡ option_or (defines n what) (get nat_cmp old n)

-- the map has how far each static object is defined in the end
abbrev pub AreDefinitions : List Naming → BTreeMap ℕ Definition → Type 0
AreDefinitions linked definitions = (n : ℕ) → get nat_cmp definitions n ≡ definition_of n linked

-- the rules behind those of names
abbrev pub size_rules : List Made → (words : ℕ) → Option ℕ → List (Option o.Broken)
size_rules functions words main =
    at 39 (line_if (is_none main) 1) ∷
    at 37 (line_if (nat_lt 4000 (length functions)) 1) ∷
    at 38 (line_if (nat_lt 262144 words) 1) ∷
    at 36 (first_of (filter_map too_many_values functions)) ∷
    []

abbrev pub size_by : List Made → (words : ℕ) → Option ℕ → Option o.Broken
size_by functions words main = first_broken (size_rules functions words main)

abbrev pub closing_by : State → List Made → (words : ℕ) → Option ℕ → Option o.Broken
closing_by s functions words main =
    first_broken (
    at 34 (first_line (filter_map (undefined_function (length functions)) s.used)) ∷
    at 35 (first_line (filter_map (undefined_object (linked_in s)) s.used)) ∷
    size_rules functions words main)
