-- What an initialiser gives an object (C11 6.7.9).
--
-- An expression gives a scalar or a structure its value, and a text an array of characters. A list in braces gives the
-- parts of an array or a structure theirs, in order; a union has its first member as its one part, and a scalar has no
-- part. So a list has too many items exactly where it has more than there are parts. Items without a part are looked at
-- as expressions.
--
-- initialiser                        rules, the lowest first
-- expression of a static object      10 at the expression
-- expression                         11 18
-- text for an array of characters    5 11
-- list in braces                     11, at the list's end
use Rattle.std.specs.Prelude.{is_some, ℕ, zero, suc, ◌+◌, ◌&&◌, ◌||◌, nat_lt, Bool, true, false, not, is_none, List, [], ◌∷◌, ◌++◌, map, length, if◌then◌else◌, Option, Some, None}
use Rattle.filc_num.specs.declared.c_int_type.CIntType.{CIntType}
use Rattle.filc_num.specs.declared.c_int_type.CIntType.TheVariants as kind
use Rattle.filc_num.specs.declared.statics.StaticHalf.TheVariants as half
use Rattle.filc_num.specs.CIntTypes.{int_type_of}
use Rattle.filc_num.specs.Integers.{convert_of}
use Rattle.c_parts.specs.declared.span.Span.{Span}
use Rattle.c_syntax.specs.declared.expr.Expr.{Expr}
use Rattle.c_syntax.specs.declared.file.Initialiser.{Initialiser, Expression, List', Row_of-Initialiser, end_of-Initialiser, more_of-Initialiser}
use Rattle.c_types.specs.declared.ctype.CType.{CType}
use Rattle.c_types.specs.declared.ctype.CType.TheVariants.{ArrayOf, Structure, Union}
use Rattle.c_types.specs.declared.ctype.Part.{Part}
use Rattle.c_tree.specs.declared.declared.DeclaredObject.{DeclaredObject}
use Rattle.c_tree.specs.declared.stmt.Stmt.{Stmt}
use Rattle.c_tree.specs.declared.stmt.Stmt.TheVariants as stmt
use Rattle.c_expr_rules.specs.declared.known.Known.{Known}
use Rattle.c_expr_rules.specs.declared.known.Known.TheVariants as known
use Rattle.c_expr_rules.specs.declared.above.Fill.{Fill}
use Rattle.c_expr_rules.specs.IntegerTypes.{integer_kind}
use Rattle.c_expr_rules.specs.Outcomes.{State, Checked, Fine, Rule, next, by_rules, ◌breaks◌}
use Rattle.c_expr_rules.specs.declared.state.MemberPlace.{MemberPlace}
use Rattle.c_expr_rules.specs.declared.state.Contents.{Contents}
use Rattle.c_expr_rules.specs.TypedExpressions.{tree_of, constant, type_at, is_array, is_record, size_of, or_zero}
use Rattle.c_expr_rules.specs.declared.typed.Typed.{Typed}
use Rattle.c_expr_rules.specs.Converting.{conversion, or_itself}
use Rattle.c_expr_rules.specs.Operators.{assigned_value}
use Rattle.c_expr_rules.specs.Expressions.{Around, object_typed, part_at, is_text, is_too_long, typed_value}
use Rattle.c_expr_rules.specs.Contexts.{without_fault}
-- what is filled: an object, or a part of it that lies so many bytes behind its first
pub use Rattle.c_file_rules.specs.declared.targets.Target.{Target}
-- what an initialiser does: statements for a local, and the first contents of a static object
pub use Rattle.c_file_rules.specs.declared.targets.Given.{Given}
pub use Rattle.c_file_rules.specs.declared.targets.PartAt.{PartAt}

abbrev pub nothing_given : Given
nothing_given = record { stores = []; fills = [] }

abbrev pub then_given : Given → Given → Given
then_given a b = record { stores = a.stores ++ b.stores; fills = a.fills ++ b.fills }

-- ---- the parts of a type

-- so many elements of so many bytes, from an offset on
abbrev pub elements_from : (count offset bytes : ℕ) → Part → List PartAt
elements_from zero offset bytes element = []
elements_from (suc n) offset bytes element =
    record { offset = offset; part = element } ∷ elements_from n (offset + bytes) bytes element

abbrev pub member_part_at : MemberPlace → PartAt
member_part_at m = record { offset = m.offset; part = m.part }

abbrev pub members_in : Option Contents → List PartAt
members_in None = []
members_in (Some c) = map member_part_at c.members

abbrev pub first_alone : List PartAt → List PartAt
first_alone [] = []
first_alone (p ∷ parts) = p ∷ []

abbrev pub parts_of : State → CType → List PartAt
parts_of s (ArrayOf a) = elements_from a.count 0 (or_zero (size_of (type_at s a.element.number))) a.element
parts_of s (Structure tag contents) = members_in (s.contents tag)
parts_of s (Union tag contents) = first_alone (members_in (s.contents tag))
parts_of s _ = []

-- a part of what is filled
abbrev pub part_target : Target → PartAt → Target
part_target t p = record t { is_whole = false; offset = t.offset + p.offset; part = p.part }

-- ---- one value

abbrev pub target_place : Around → (line : ℕ) → State → Target → Typed
target_place around line s t =
    let object = object_typed around s line t.object t.object.number in
    if t.is_whole then object else part_at line s object t.offset t.part

abbrev pub fill_of : Target → ℕ → Known → List Fill
fill_of t bytes (known.Integer v) = record { offset = t.offset; bytes = bytes; value = v; half = half.None } ∷ []
fill_of t bytes (known.Address h offset) = record { offset = t.offset; bytes = bytes; value = offset; half = h } ∷ []
fill_of t bytes known.Nothing = []
fill_of t bytes known.Fault = []

-- a value that was converted
abbrev pub value_given : Around → (line : ℕ) → State → Target → Typed → Given
value_given around line s t v =
    record {
      stores = stmt.Run (tree_of (assigned_value line (target_place around line s t) v).made) ∷ [];
      fills = fill_of t (or_zero (size_of (type_at s t.part.number))) v.known;
    }

-- an integer constant or an address constant (6.6p7)
abbrev pub is_constant : Known → Bool
is_constant (known.Integer v) = true
is_constant (known.Address h offset) = true
is_constant known.Nothing = false
is_constant known.Fault = false

abbrev pub no_value : CType → Typed → Bool
no_value ty v = is_array ty || (is_record ty && not (is_record v.ty))

abbrev pub value_rules : Target → State → CType → Typed → List Rule
value_rules t s ty v =
    11 breaks (no_value ty v || (t.is_static && not (is_constant (or_itself v (conversion s ty v)).known))) ∷
    18 breaks is_none (conversion s ty v) ∷ []

-- what a static object gets is a constant, and has no fault in it
abbrev pub initial_value : Around → Target → State → Expr → Checked Typed
initial_value around t s e = if t.is_static then without_fault around s e else typed_value around s e

abbrev pub value_filled : Around → Target → State → Expr → Checked Given
value_filled around t s e =
    let ty = type_at s t.part.number in
    next (initial_value around t s e) (λ s v.
    by_rules e.span.line (value_rules t s ty v) s (value_given around e.span.line s t (or_itself v
    (conversion s ty v))))

-- ---- texts for arrays of characters (6.7.9p14): all fits but the zero

abbrev pub is_character : Option CIntType → Bool
is_character (Some kind.Char) = true
is_character (Some kind.SignedChar) = true
is_character (Some kind.UnsignedChar) = true
is_character _ = false

-- the kind of an array's characters, and how many it has
abbrev pub kind_or_none : Option CIntType → ℕ → Option (CIntType × ℕ)
kind_or_none None count = None
kind_or_none (Some k) count = if is_character (Some k) then Some (k, count) else None

abbrev pub characters_of : State → CType → Option (CIntType × ℕ)
characters_of s (ArrayOf a) = kind_or_none (integer_kind (type_at s a.element.number)) a.count
characters_of s _ = None

-- each byte as an element
abbrev pub bytes_given : Around → (line : ℕ) → State → Target → CIntType → List PartAt → List ℕ → Given
bytes_given around line s t k (p ∷ parts) (v ∷ bytes) =
    then_given (value_given around line s (part_target t p) (constant k line (convert_of v (int_type_of k))))
    (bytes_given around line s t k parts bytes)
bytes_given around line s t k _ _ = nothing_given

abbrev pub text_filled : Around → Target → State → Span → CIntType × ℕ → Checked Given
text_filled around t s span characters =
    let bytes = around.text span.first span.last in
    by_rules span.line (5 breaks is_too_long bytes ∷ 11 breaks nat_lt characters.1 (length bytes) ∷ []) s
    (bytes_given around span.line s t characters.0 (parts_of s (type_at s t.part.number)) bytes)

-- an expression, which may be a text for an array of characters
abbrev pub by_characters : Around → Target → State → Expr → Option (CIntType × ℕ) → Checked Given
by_characters around t s e None = value_filled around t s e
by_characters around t s e (Some characters) =
    if is_text e.kind then text_filled around t s e.span characters else value_filled around t s e

abbrev pub expression_filled : Around → Target → State → Expr → Checked Given
expression_filled around t s e = by_characters around t s e (characters_of s (type_at s t.part.number))

-- ---- lists in braces

-- a text alone in braces is the text (6.7.9p14)
abbrev pub is_one_text : {m : _} → Row_of-Initialiser m → Bool
is_one_text (more_of-Initialiser (Expression e) end_of-Initialiser) = is_text e.kind
is_one_text _ = false

abbrev pub is_text_list : {m : _} → State → CType → Row_of-Initialiser m → Bool
is_text_list s ty items = is_some (characters_of s ty) && is_one_text items

abbrev pub items_in : {m : _} → Row_of-Initialiser m → ℕ
items_in end_of-Initialiser = 0
items_in (more_of-Initialiser item rest) = suc (items_in rest)

abbrev mutual
  -- an initialiser without anything to fill is looked at all the same
  pub looked_at : Around → State → Initialiser → Checked Given
  looked_at around s (Expression e) = next (typed_value around s e) (λ s v. Fine s nothing_given)
  looked_at around s (List' span z items) = all_looked_at around s items

  pub all_looked_at : {m : _} → Around → State → Row_of-Initialiser m → Checked Given
  all_looked_at around s end_of-Initialiser = Fine s nothing_given
  all_looked_at around s (more_of-Initialiser item rest) =
      next (looked_at around s item) (λ s g. all_looked_at around s rest)

abbrev mutual
  pub filled : Around → Target → State → Initialiser → Checked Given
  filled around t s (Expression e) = expression_filled around t s e
  filled around t s (List' span z items) =
      if is_text_list s (type_at s t.part.number) items
      then items_filled around t s (record { offset = 0; part = t.part } ∷ []) items
      else next (items_filled around t s (parts_of s (type_at s t.part.number)) items) (λ s g.
      by_rules span.line (11 breaks nat_lt (length (parts_of s (type_at s t.part.number))) (items_in items) ∷ []) s g)

  -- items, each for the next of these parts
  pub items_filled : {m : _} → Around → Target → State → List PartAt → Row_of-Initialiser m → Checked Given
  items_filled around t s parts end_of-Initialiser = Fine s nothing_given
  items_filled around t s (p ∷ parts) (more_of-Initialiser item rest) =
      next (filled around (part_target t p) s item) (λ s g.
      next (items_filled around t s parts rest) (λ s more. Fine s (then_given g more)))
  items_filled around t s [] (more_of-Initialiser item rest) = all_looked_at around s (more_of-Initialiser item rest)

-- how many elements an array has whose size only its initialiser says (6.7.9p22), where they are characters or aren't. An
-- expression that is no text says none
abbrev pub characters_in : Around → Expr → ℕ
characters_in around e = suc (length (around.text e.span.first e.span.last))

abbrev pub listed_elements : {m : _} → Around → Bool → Row_of-Initialiser m → ℕ
listed_elements around true (more_of-Initialiser (Expression e) end_of-Initialiser) =
    if is_text e.kind then characters_in around e else 1
listed_elements around _ items = items_in items

abbrev pub elements_in : Around → (are_characters : Bool) → Initialiser → Option ℕ
elements_in around are_characters (Expression e) =
    if are_characters && is_text e.kind then Some (characters_in around e) else None
elements_in around are_characters (List' span z items) = Some (listed_elements around are_characters items)
