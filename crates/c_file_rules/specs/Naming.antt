-- Names in a state: what a declaration makes its name stand for, or that it is declared again (C11 6.2.1, 6.7p3): rule
-- 2.
use Rattle.std.specs.Prelude.{ℕ, Bool, List, if◌then◌else◌, Option, Some, None, is_none}
use Rattle.c_tree.specs.declared.declared.Declared.{Declared}
use Rattle.c_tree.specs.declared.declared.Declared.TheVariants as declared
use Rattle.c_types.specs.declared.entry.Entry.{Entry}
use Rattle.c_scope.specs.Again.{has_linkage}
use Rattle.c_scope.specs.Blocks.{Naming, visible, declared_in, innermost}
use Rattle.c_scope.specs.Scopes.{Names, with_block, without_block, with_name, space_of, declaration_in}
use Rattle.c_expr_rules.specs.Outcomes.{State, Checked, Fine, Breaks, Broke}
use Rattle.c_expr_rules.specs.Expressions.{Around}

-- these names, and what letters stand for by them
abbrev pub with_names : Names → State → State
with_names names s =
    record s { above = record s.above { names = names }; visible = (λ letters. visible letters names.ordinary) }

abbrev pub in_scope : State → State
in_scope s = with_names (with_block s.above.names) s

abbrev pub out_of_scope : State → State
out_of_scope s = with_names (without_block s.above.names) s

-- what is found in a block is left as what is found
abbrev pub leaves : {A : Type 0} → Checked A → Checked A
leaves (Fine s x) = Fine (out_of_scope s) x
leaves (Breaks broken s known) = Breaks broken (out_of_scope s) known
leaves (Broke broken) = Broke broken

-- what a scope of its own has
abbrev pub scoped : {A : Type 0} → State → (State → Checked A) → Checked A
scoped s inside = leaves (inside (in_scope s))

abbrev pub naming : Around → ℕ → Declared → Naming
naming around name what = record { name = around.spelling name; what = what }

-- what the name would stand for; nothing where it is declared again
abbrev pub declaration : Around → State → ℕ → Declared → Option Declared
declaration around s name what = declaration_in s.above.names (space_of what) (around.spelling name) what

abbrev pub is_again : Around → State → ℕ → Declared → Bool
is_again around s name what = is_none (declaration around s name what)

abbrev pub with_declared : Around → State → ℕ → Option Declared → State
with_declared around s name None = s
with_declared around s name (Some what) =
    with_names (with_name (space_of what) (naming around name what) s.above.names) s

-- the state with it, which is the same one where it is declared again
abbrev pub declares : Around → State → ℕ → Declared → State
declares around s name what = with_declared around s name (declaration around s name what)

-- ---- what a name has already

abbrev pub linked : Around → State → ℕ → Option Declared
linked around s name = visible (around.spelling name) s.above.names.linked

-- what a declaration follows: with linkage, what the name stands for with linkage, and else what its block has
abbrev pub earlier : Around → State → ℕ → Declared → Option Declared
earlier around s name what =
    if has_linkage what
    then linked around s name
    else declared_in (around.spelling name) (innermost s.above.names.ordinary)

-- with the type that what it follows has, where that is of its kind
abbrev pub typed_as : Option Declared → Declared → Declared
typed_as (Some (declared.Object a)) (declared.Object b) = declared.Object (record b { ty = a.ty })
typed_as (Some (declared.Function a)) (declared.Function b) = declared.Function (record b { ty = a.ty })
typed_as (Some (declared.Typedef a)) (declared.Typedef b) = declared.Typedef a
typed_as other what = what

-- declared again whatever type it has: not even the earlier one's would do
abbrev pub is_again_by_any_type : Around → State → ℕ → Declared → Bool
is_again_by_any_type around s name what = is_again around s name (typed_as (earlier around s name what) what)

abbrev pub tag_visible : Around → State → ℕ → Option Declared
tag_visible around s name = visible (around.spelling name) s.above.names.tags

abbrev pub tag_here : Around → State → ℕ → Option Declared
tag_here around s name = declared_in (around.spelling name) (innermost s.above.names.tags)

abbrev pub with_types : List Entry → State → State
with_types table s = record s { table = table }
