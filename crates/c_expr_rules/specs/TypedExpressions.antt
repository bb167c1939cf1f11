-- A typed expression: its type, the place that it names where it names one, its tree, and what is known of it before a run.
use Rattle.std.specs.Prelude.{ℕ, ◌==◌, ◌||◌, Bool, true, false, bit_and, List, [], ◌∷◌, ◌++◌, if◌then◌else◌, Option, Some, None, Result, Ok, Err}
use Rattle.filc_num.specs.declared.c_int_type.CIntType.{CIntType}
use Rattle.filc_num.specs.CIntTypes.{int_type_of}
use Rattle.c_types.specs.declared.ctype.CType.{CType}
use Rattle.c_types.specs.declared.ctype.CType.TheVariants.{Void, Integer, Enumeration, Pointer, ArrayOf, Function, Structure, Union}
use Rattle.c_types.specs.declared.ctype.Part.{Part}
use Rattle.c_types.specs.declared.ctype.TypeFault.{TypeFault}
use Rattle.c_types.specs.declared.qualifier_set.Qualifiers.{Qualifiers}
use Rattle.c_types.specs.Sizes.{Room, room_of}
use Rattle.c_types.specs.Declarators.{type_in}
use Rattle.c_tree.specs.declared.expr.Expr.{Expr}
use Rattle.c_tree.specs.declared.expr.Expr.TheVariants as tree
use Rattle.c_tree.specs.declared.expr.Link.{Link}
use Rattle.c_tree.specs.declared.operation.Operation.{Operation}
use Rattle.c_tree.specs.declared.operation.Access.{Access}
use Rattle.c_tree.specs.declared.operation.Access.TheVariants as access
use Rattle.c_tree.specs.declared.operation.Unit.{Unit as CopyUnit}
use Rattle.c_tree.specs.declared.operation.Unit.TheVariants as unit
pub use Rattle.c_expr_rules.specs.declared.made.Made.{Made}
pub use Rattle.c_expr_rules.specs.declared.typed.Place.{Place}
pub use Rattle.c_expr_rules.specs.declared.typed.Place.TheVariants.{Value, InLocal, InMemory, InValue, VoidAt, Designator}
pub use Rattle.c_expr_rules.specs.declared.typed.Typed.{Typed}
use Rattle.c_expr_rules.specs.declared.known.Known.{Known}
use Rattle.c_expr_rules.specs.declared.known.Known.TheVariants as known
use Rattle.c_expr_rules.specs.IntegerTypes.{integer_kind}
use Rattle.c_expr_rules.specs.Outcomes.{State}

-- ---- trees, as long as operations are added to them

abbrev pub tree_with : ℕ → Expr → List Link → Expr
tree_with line first [] = first
tree_with line first (l ∷ links) = tree.Chain line first (l ∷ links)

abbrev pub tree_of : Made → Expr
tree_of m = tree_with m.line m.first m.links

abbrev pub made_of : ℕ → Expr → Made
made_of line e = record { line = line; first = e; links = [] }

abbrev pub leaf : ℕ → Operation → Made
leaf line op = made_of line (tree.Apply line op [])

abbrev pub link : Operation → List Expr → Link
link op operands = record { op = op; operands = operands }

-- an operation with the tree as its first operand. The links of a chain have its line; on another line a new chain begins
abbrev pub with_operation : ℕ → Operation → List Expr → Made → Made
with_operation line op operands m =
    if line == m.line then record m { links = m.links ++ link op operands ∷ [] } else record { line = line; first = tree_of m; links = link op operands ∷ [] }

-- ---- values that name no place

-- no qualifiers
abbrev pub plain : Qualifiers
plain = record { 0 = 0 }

abbrev pub value : CType → ℕ → Made → Known → Typed
value ty line made k = record { ty = ty; quals = plain; place = Value; line = line; made = made; known = k; is_null = false; of_register = false }

abbrev pub kind_value : CIntType → ℕ → Made → Known → Typed
kind_value kind line made k = value (Integer kind) line made k

-- an integer constant
abbrev pub constant : CIntType → ℕ → ℕ → Typed
constant kind line v = kind_value kind line (leaf line (Rattle.c_tree.specs.declared.operation.Operation.TheVariants.Number v)) (known.Integer v)

-- ---- types

abbrev pub or_void : Option CType → CType
or_void None = Void
or_void (Some ty) = ty

abbrev pub type_at : State → ℕ → CType
type_at s number = or_void (type_in s.table number)

abbrev pub is_void : CType → Bool
is_void Void = true
is_void (Integer kind) = false
is_void (Enumeration tag) = false
is_void (Pointer to) = false
is_void (ArrayOf a) = false
is_void (Function signature) = false
is_void (Structure tag contents) = false
is_void (Union tag contents) = false

abbrev pub is_some_kind : Option CIntType → Bool
is_some_kind None = false
is_some_kind (Some kind) = true

abbrev pub is_integer : CType → Bool
is_integer ty = is_some_kind (integer_kind ty)

abbrev pub is_pointer : CType → Bool
is_pointer (Pointer to) = true
is_pointer Void = false
is_pointer (Integer kind) = false
is_pointer (Enumeration tag) = false
is_pointer (ArrayOf a) = false
is_pointer (Function signature) = false
is_pointer (Structure tag contents) = false
is_pointer (Union tag contents) = false

-- 6.2.5p21
abbrev pub is_scalar : CType → Bool
is_scalar ty = is_integer ty || is_pointer ty

abbrev pub is_array : CType → Bool
is_array (ArrayOf a) = true
is_array (Pointer to) = false
is_array Void = false
is_array (Integer kind) = false
is_array (Enumeration tag) = false
is_array (Function signature) = false
is_array (Structure tag contents) = false
is_array (Union tag contents) = false

-- the number of a structure's or union's type
abbrev pub record_number : CType → Option ℕ
record_number (Structure tag contents) = Some tag
record_number (Union tag contents) = Some tag
record_number Void = None
record_number (Integer kind) = None
record_number (Enumeration tag) = None
record_number (Pointer to) = None
record_number (ArrayOf a) = None
record_number (Function signature) = None

abbrev pub is_some_number : Option ℕ → Bool
is_some_number None = false
is_some_number (Some n) = true

abbrev pub is_record : CType → Bool
is_record ty = is_some_number (record_number ty)

abbrev pub same_number : Option ℕ → Option ℕ → Bool
same_number (Some a) (Some b) = a == b
same_number _ _ = false

-- one structure or union
abbrev pub same_record : CType → CType → Bool
same_record a b = same_number (record_number a) (record_number b)

abbrev pub size_in : Result Room TypeFault → Option ℕ
size_in (Ok r) = Some r.size
size_in (Err fault) = None

-- its size where it is complete
abbrev pub size_of : CType → Option ℕ
size_of ty = size_in (room_of ty)

abbrev pub or_zero : Option ℕ → ℕ
or_zero None = 0
or_zero (Some n) = n

abbrev pub is_complete : CType → Bool
is_complete ty = is_some_number (size_of ty)

-- what a pointer points to
abbrev pub pointed_part : CType → Option Part
pointed_part (Pointer to) = Some to
pointed_part Void = None
pointed_part (Integer kind) = None
pointed_part (Enumeration tag) = None
pointed_part (ArrayOf a) = None
pointed_part (Function signature) = None
pointed_part (Structure tag contents) = None
pointed_part (Union tag contents) = None

abbrev pub part_size : State → Option Part → Option ℕ
part_size s None = None
part_size s (Some to) = size_of (type_at s to.number)

-- the size of what a pointer points to, where that is complete
abbrev pub element_size : State → CType → Option ℕ
element_size s ty = part_size s (pointed_part ty)

-- ---- qualifiers

abbrev pub part_of : ℕ → ℕ → Part
part_of number quals = record { number = number; qualifiers = record { 0 = quals } }

abbrev pub is_const : ℕ → Bool
is_const quals = bit_and quals 1 == 1

abbrev pub is_atomic : ℕ → Bool
is_atomic quals = bit_and quals 8 == 8

-- how a scalar lies in memory
abbrev pub access_of_kind : Option CIntType → ℕ → Access
access_of_kind (Some kind) quals = access.Integer (int_type_of kind)
access_of_kind None quals = if is_atomic quals then access.Box else access.Pointer

abbrev pub access_of : CType → ℕ → Access
access_of ty quals = access_of_kind (integer_kind ty) quals

-- an object of the type has a home in any case; another local has one where its address is taken
abbrev pub always_has_home : CType → ℕ → Bool
always_has_home ty quals = is_array ty || (is_record ty || is_atomic quals)

-- ---- copies of structures, by their alignment

abbrev pub unit_of : ℕ → CopyUnit
unit_of align = if align == 1 then unit.Byte else (if align == 2 then unit.TwoBytes else (if align == 4 then unit.FourBytes else unit.Pointer))
