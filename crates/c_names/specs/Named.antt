-- Names in a state by their letters, as the calls on scopes take them; the definitions go by the names' numbers.
use Rattle.std.specs.Prelude.{ℕ, Bool, List, is_none, Option, Some, None, if◌then◌else◌}
use Rattle.c_scope.specs.Again.{has_linkage}
use Rattle.c_scope.specs.Blocks.{visible, declared_in, innermost}
use Rattle.c_scope.specs.Scopes.{with_name, space_of, declaration_in}
use Rattle.c_tree.specs.declared.declared.Declared.{Declared}
use Rattle.c_expr_rules.specs.Outcomes.{State}
use Rattle.c_file_rules.specs.Naming.{with_names, typed_as}

abbrev pub tag_seen : List ℕ → State → Option Declared
tag_seen letters s = visible letters s.above.names.tags

abbrev pub tag_in_block : List ℕ → State → Option Declared
tag_in_block letters s = declared_in letters (innermost s.above.names.tags)

abbrev pub ordinary_in_block : List ℕ → State → Option Declared
ordinary_in_block letters s = declared_in letters (innermost s.above.names.ordinary)

abbrev pub linked_to : List ℕ → State → Option Declared
linked_to letters s = visible letters s.above.names.linked

-- what a name would stand for; nothing where it is declared again
abbrev pub named_as : List ℕ → Declared → State → Option Declared
named_as letters what s = declaration_in s.above.names (space_of what) letters what

abbrev pub is_stated_again : List ℕ → Declared → State → Bool
is_stated_again letters what s = is_none (named_as letters what s)

abbrev pub stated_as : List ℕ → Option Declared → State → State
stated_as letters None s = s
stated_as letters (Some what) s =
    with_names (with_name (space_of what) (record { name = letters; what = what }) s.above.names) s

abbrev pub stated : List ℕ → Declared → State → State
stated letters what s = stated_as letters (named_as letters what s) s

-- what a declaration follows
abbrev pub followed : List ℕ → Declared → State → Option Declared
followed letters what s = if has_linkage what then linked_to letters s else ordinary_in_block letters s

abbrev pub is_stated_again_by_any_type : List ℕ → Declared → State → Bool
is_stated_again_by_any_type letters what s = is_stated_again letters (typed_as (followed letters what s) what) s
