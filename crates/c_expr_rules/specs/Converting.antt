-- Conversion as by assignment (C11 6.5.16.1) and by casts (6.5.4).
--
-- Integers become integers, a pointer a `_Bool`, a null constant a pointer, a structure or union one of its own type, and a pointer
-- one to the same type, or to or from void, where the target has all qualifiers of what is pointed to. A conversion stands in
-- the tree where the type's kind of value changes.
use Rattle.std.specs.Prelude.{ℕ, ◌==◌, ◌&&◌, ◌||◌, Bool, true, false, bit_and, [], if◌then◌else◌, Option, Some, None}
use Rattle.filc_num.specs.declared.integer.IntType.{IntType}
use Rattle.filc_num.specs.declared.integer.IntType.TheVariants as i
use Rattle.filc_num.specs.declared.c_int_type.CIntType.{CIntType}
use Rattle.filc_num.specs.CIntTypes.{int_type_of}
use Rattle.c_types.specs.declared.ctype.CType.{CType}
use Rattle.c_types.specs.declared.ctype.CType.TheVariants.{Void, Integer, Enumeration, Pointer, ArrayOf, Function, Structure, Union}
use Rattle.c_types.specs.declared.ctype.Part.{Part}
use Rattle.c_tree.specs.declared.operation.Operation.TheVariants as op
use Rattle.c_expr_rules.specs.declared.known.Known.TheVariants as known
use Rattle.c_expr_rules.specs.IntegerTypes.{integer_kind}
use Rattle.c_expr_rules.specs.Constants.{known_as, known_pointer, is_zero}
use Rattle.c_expr_rules.specs.Outcomes.{State}
use Rattle.c_expr_rules.specs.TypedExpressions.{Typed, value, with_operation, type_at, is_void, is_integer, is_pointer, is_scalar, same_record}

-- ---- integers

abbrev pub type_index : IntType → ℕ
type_index i.Bool = 0
type_index i.I8 = 1
type_index i.U8 = 2
type_index i.I16 = 3
type_index i.U16 = 4
type_index i.I32 = 5
type_index i.U32 = 6
type_index i.I64 = 7
type_index i.U64 = 8

abbrev pub same_int : IntType → IntType → Bool
same_int a b = type_index a == type_index b

-- an integer of one kind as one of another, of this type of C
abbrev pub integer_as : CType → CIntType → CIntType → Typed → Typed
integer_as ty to from t =
    if same_int (int_type_of to) (int_type_of from)
    then value ty t.line t.made (known_as (int_type_of to) t.known)
    else value ty t.line (with_operation t.line (op.Convert (int_type_of to)) [] t.made) (known_as (int_type_of to) t.known)

-- ---- pointers

abbrev pub is_bool : CIntType → Bool
is_bool kind = same_int (int_type_of kind) i.Bool

-- an integer constant 0, or one cast to `void *`
abbrev pub is_null_constant : Typed → Bool
is_null_constant t = t.is_null || (is_integer t.ty && is_zero t.known)

abbrev pub has_all : ℕ → ℕ → Bool
has_all p q = bit_and p q == q

-- pointers to these parts point to one type, or one of them to void
abbrev pub point_alike : State → Part → Part → Bool
point_alike s p q = p.number == q.number || (is_void (type_at s p.number) || is_void (type_at s q.number))

-- the target's part has all qualifiers of the source's
abbrev pub may_become : State → Part → Part → Bool
may_become s to from = point_alike s to from && has_all to.qualifiers.0 from.qualifiers.0

-- an integer as a pointer without a capability; a pointer is one, and points to what it did
abbrev pub as_pointer : CType → Typed → Typed
as_pointer ty t =
    if is_integer t.ty then value ty t.line (with_operation t.line op.ToPointer [] t.made) (known_pointer t.known) else record (value ty t.line t.made t.known) { of_register = t.of_register }

-- a pointer as an integer, or whether it isn't null
abbrev pub pointer_as : CType → CIntType → Typed → Typed
pointer_as ty kind t = value ty t.line (with_operation t.line (op.ToInteger (int_type_of kind)) [] t.made) known.Nothing

-- ---- conversion as by assignment; None where it is bad

abbrev pub from_pointer : CType → CIntType → Typed → Option Typed
from_pointer ty kind t = if is_bool kind && is_pointer t.ty then Some (pointer_as ty kind t) else None

abbrev pub to_integer : CType → CIntType → Option CIntType → Typed → Option Typed
to_integer ty to (Some from) t = Some (integer_as ty to from t)
to_integer ty to None t = from_pointer ty to t

abbrev pub to_pointer : State → Part → CType → Typed → Option Typed
to_pointer s to (Pointer from) t = if is_null_constant t || may_become s to from then Some (as_pointer (Pointer to) t) else None
to_pointer s to ty t = if is_null_constant t then Some (as_pointer (Pointer to) t) else None

abbrev pub to_record : CType → Typed → Option Typed
to_record ty t = if same_record ty t.ty then Some t else None

abbrev pub conversion : State → (to : CType) → Typed → Option Typed
conversion s (Integer kind) t = to_integer (Integer kind) kind (integer_kind t.ty) t
conversion s (Enumeration tag) t = to_integer (Enumeration tag) Rattle.filc_num.specs.declared.c_int_type.CIntType.TheVariants.Int (integer_kind t.ty) t
conversion s (Pointer to) t = to_pointer s to t.ty t
conversion s (Structure tag contents) t = to_record (Structure tag contents) t
conversion s (Union tag contents) t = to_record (Union tag contents) t
conversion s Void t = None
conversion s (ArrayOf a) t = None
conversion s (Function signature) t = None

abbrev pub is_none : Option Typed → Bool
is_none None = true
is_none (Some t) = false

abbrev pub or_itself : Typed → Option Typed → Typed
or_itself t None = t
or_itself t (Some u) = u

-- ---- casts: between scalars, or to void (rule 19)

abbrev pub is_cast : (to from : CType) → Bool
is_cast to from = is_void to || (is_scalar to && is_scalar from)

abbrev pub cast_to_integer : CType → CIntType → Option CIntType → Typed → Typed
cast_to_integer ty to (Some from) t = integer_as ty to from t
cast_to_integer ty to None t = pointer_as ty to t

-- `void *` without qualifiers
abbrev pub is_plain_void_pointer : State → Part → Bool
is_plain_void_pointer s to = is_void (type_at s to.number) && to.qualifiers.0 == 0

abbrev pub cast_to : State → CType → Typed → Typed
cast_to s (Integer kind) t = cast_to_integer (Integer kind) kind (integer_kind t.ty) t
cast_to s (Enumeration tag) t = cast_to_integer (Enumeration tag) Rattle.filc_num.specs.declared.c_int_type.CIntType.TheVariants.Int (integer_kind t.ty) t
cast_to s (Pointer to) t = record (as_pointer (Pointer to) t) { is_null = is_plain_void_pointer s to && (is_integer t.ty && is_zero t.known) }
cast_to s ty t = value ty t.line t.made known.Nothing
