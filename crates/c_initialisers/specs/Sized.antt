-- How many elements a list in braces says, over the list of its items.
use Rattle.std.specs.Prelude.{ℕ, Bool, true, false, List, length, Option, Some, None}
use Rattle.c_syntax.specs.declared.expr.Expr.{Expr}
use Rattle.c_syntax.specs.declared.file.Initialiser.{Initialiser}
use Rattle.c_expr_rules.specs.Expressions.{Around}
use Rattle.c_file_rules.specs.Filling.{one_text}
use Rattle.c_file_rules.specs.Initialising.{characters_in}
use Rattle.c_file_rules.specs.Declaring.{Sizing}
use Rattle.c_initialisers.specs.declared.sizing.Sizing as code

abbrev pub text_or_items : Around → Option Expr → List Initialiser → ℕ
text_or_items around (Some e) items = characters_in around e
text_or_items around None items = length items

abbrev pub elements_of_list : Around → (are_characters : Bool) → List Initialiser → ℕ
elements_of_list around true items = text_or_items around (one_text items) items
elements_of_list around false items = length items

-- what an array takes from its initialiser, in the words of the definition
abbrev pub seen_sizing : code.Sizing → Sizing
seen_sizing z = record { count = z.count; is_too_large = z.is_too_large }
