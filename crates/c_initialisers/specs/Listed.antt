-- What a list in braces gives, over the list of its items.
use Rattle.std.specs.Prelude.{ℕ, nat_lt, List, [], ◌∷◌, length, if◌then◌else◌, Option, Some, None}
use Rattle.c_parts.specs.declared.span.Span.{Span}
use Rattle.c_syntax.specs.declared.file.Initialiser.{Initialiser}
use Rattle.c_expr_rules.specs.Expressions.{Around}
use Rattle.c_expr_rules.specs.Outcomes.{State, Checked, Fine, Rule, next, by_rules, ◌breaks◌}
use Rattle.c_expr_rules.specs.TypedExpressions.{type_at}
use Rattle.c_file_rules.specs.Filling.{fill_list, is_text_among}
use Rattle.c_file_rules.specs.Initialising.{nothing_given, part_target, parts_of, looked_at, filled}
use Rattle.c_file_rules.specs.declared.targets.Given.{Given}
use Rattle.c_file_rules.specs.declared.targets.PartAt.{PartAt}
use Rattle.c_file_rules.specs.declared.targets.Target.{Target}

-- so many items are too many where there are fewer parts
abbrev pub count_rules : Target → State → (items : ℕ) → List Rule
count_rules t s items = 11 breaks nat_lt (length (parts_of s (type_at s t.part.number))) items ∷ []

-- a text alone in braces is the text
abbrev pub list_filled : Around → Target → State → Span → List Initialiser → Checked Given
list_filled around t s span items =
    if is_text_among s (type_at s t.part.number) items
    then fill_list around t s (record { offset = 0; part = t.part } ∷ []) items
    else next (fill_list around t s (parts_of s (type_at s t.part.number)) items) (λ s g.
    by_rules span.line (count_rules t s (length items)) s g)

-- an item for this part, or for none
abbrev pub item_filled : Around → Target → State → Option PartAt → Initialiser → Checked Given
item_filled around t s None item = next (looked_at around s item) (λ s g. Fine s nothing_given)
item_filled around t s (Some p) item = filled around (part_target t p) s item
