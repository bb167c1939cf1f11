-- What initialisers and declarations give, as the code keeps it: of a local the stores alone, and of a static object the
-- fills alone.
use Rattle.std.specs.Prelude.{ℕ, ◌&&◌, is_some, Bool, List, [], ◌∷◌, ◌++◌, if◌then◌else◌, Option, Some, None, Result, Ok, Err}
use Rattle.filc_num.specs.declared.c_int_type.CIntType.{CIntType}
use Rattle.c_syntax.specs.declared.expr.Expr.{Expr}
use Rattle.c_syntax.specs.declared.file.Initialiser.{Initialiser, Expression}
use Rattle.c_types.specs.declared.ctype.CType.{CType}
use Rattle.c_types.specs.declared.ctype.Part.{Part}
use Rattle.c_tree.specs.declared.stmt.Stmt.{Stmt}
use Rattle.c_tree.specs.declared.stmt.Stmt.TheVariants as stmt
use Rattle.c_expr_rules.specs.declared.found.Fault.{Fault}
use Rattle.c_expr_rules.specs.declared.found.Found.{Found}
use Rattle.c_expr_rules.specs.declared.found.Found.TheVariants as found
use Rattle.c_expr_rules.specs.declared.known.Known.{Known}
use Rattle.c_expr_rules.specs.declared.above.Fill.{Fill}
use Rattle.c_expr_rules.specs.declared.above.Placed.{Placed}
use Rattle.c_expr_rules.specs.Contexts.{without_fault}
use Rattle.c_expr_rules.specs.Expressions.{Around, is_text, typed_value}
use Rattle.c_expr_rules.specs.Operators.{assigned_value}
use Rattle.c_expr_rules.specs.Outcomes.{State, Checked, Fine, next, outcome_with}
use Rattle.c_expr_rules.specs.TypedExpressions.{type_at, tree_of, size_of, or_zero}
use Rattle.c_expr_rules.specs.declared.typed.Typed.{Typed}
use Rattle.c_file_rules.specs.Initialising.{Target, Given, PartAt, nothing_given, then_given, part_target, parts_of, target_place, fill_of, value_given, bytes_given, characters_of, looked_at, filled}

abbrev pub fills_in : Option Fill → List Fill
fills_in None = []
fills_in (Some f) = f ∷ []

-- a static object of this type
abbrev pub placed_as : State → (number : ℕ) → Part → Placed
placed_as s number p = record { number = number; bytes = or_zero (size_of (type_at s p.number)) }

-- what is kept of what is given
abbrev pub kept_of : (is_static : Bool) → Given → Given
kept_of is_static g =
    if is_static then record { stores = []; fills = g.fills } else record { stores = g.stores; fills = [] }

abbrev pub value_kept : Around → (line : ℕ) → State → Target → Typed → Given
value_kept around line s t v = kept_of t.is_static (value_given around line s t v)

-- of a text as long as it has parts
abbrev pub bytes_kept : Around → (line : ℕ) → State → Target → CIntType → List ℕ → Given
bytes_kept around line s t k bytes =
    kept_of t.is_static (bytes_given around line s t k (parts_of s (type_at s t.part.number)) bytes)

-- a fill more, and a store more
abbrev pub with_fill : State → Target → Known → Given → Given
with_fill s t k g = record g { fills = g.fills ++ fill_of t (or_zero (size_of (type_at s t.part.number))) k }

abbrev pub store_of : Around → (line : ℕ) → State → Target → Typed → Stmt
store_of around line s t v = stmt.Run (tree_of (assigned_value line (target_place around line s t) v).made)

abbrev pub with_store : Around → (line : ℕ) → State → Target → Typed → Given → Given
with_store around line s t v g = record g { stores = g.stores ++ store_of around line s t v ∷ [] }

-- the same behind what was given before
abbrev pub giving : Given → Target → Checked Given → Checked Given
giving before t found = outcome_with (λ s g. then_given before (kept_of t.is_static g)) found

-- what is found, with what the call left
abbrev pub found_with : Given → Found (Unit {0}) → Found Given
found_with g (found.Fine x) = found.Fine g
found_with g (found.Breaks broken known) = found.Breaks broken None

abbrev pub told_with : Given → Result (Found (Unit {0})) Fault → Result (Found Given) Fault
told_with g (Ok x) = Ok (found_with g x)
told_with g (Err fault) = Err fault

-- the same of a call that breaks no rule itself
abbrev pub done_with : Given → Result (Unit {0}) Fault → Result Given Fault
done_with g (Ok x) = Ok g
done_with g (Err fault) = Err fault

abbrev pub nothing_by : Result (Unit {0}) Fault → Result Given Fault
nothing_by r = done_with nothing_given r

abbrev pub initial_value_in : Around → (is_static : Bool) → State → Expr → Checked Typed
initial_value_in around is_static s e = if is_static then without_fault around s e else typed_value around s e

-- the one item of a list, where it is a text
abbrev pub one_text : List Initialiser → Option Expr
one_text (Expression e ∷ []) = if is_text e.kind then Some e else None
one_text items = None

abbrev pub is_text_among : State → CType → List Initialiser → Bool
is_text_among s ty items = is_some (characters_of s ty) && is_some (one_text items)

abbrev pub look_list : Around → State → List Initialiser → Checked Given
look_list around s [] = Fine s nothing_given
look_list around s (i ∷ rest) = next (looked_at around s i) (λ s g. look_list around s rest)

abbrev pub fill_list : Around → Target → State → List PartAt → List Initialiser → Checked Given
fill_list around t s parts [] = Fine s nothing_given
fill_list around t s (p ∷ parts) (i ∷ rest) =
    next (filled around (part_target t p) s i) (λ s g.
    next (fill_list around t s parts rest) (λ s more. Fine s (then_given g more)))
fill_list around t s [] (i ∷ rest) = look_list around s (i ∷ rest)
