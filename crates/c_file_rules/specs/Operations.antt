-- The functions that are one operation each. The library's headers do their work by them, and no file declares them:
-- they are declared before the file. Their numbers stand behind those of the functions with bodies, and behind theirs
-- stands that of a `putchar` from int to int without a body, which puts out a byte. What such a number is said of is
-- called, and nothing else: it is no function of the program, so it has no address.
use Rattle.std.specs.Prelude.{ℕ, suc, ◌+◌, ◌-◌, ◌&&◌, nat_lt, Bool, true, false, List, [], ◌∷◌, ◌++◌, map, length, codes, slice_get, if◌then◌else◌, Option, Some, None}
use Rattle.std.specs.Str.{bytes_eq}
use Rattle.filc_num.specs.declared.c_int_type.CIntType.{CIntType}
use Rattle.filc_num.specs.declared.c_int_type.CIntType.TheVariants as kind
use Rattle.c_types.specs.declared.ctype.CType.{CType}
use Rattle.c_types.specs.declared.ctype.CType.TheVariants.{Void, Integer, Function}
use Rattle.c_types.specs.declared.ctype.Part.{Part}
use Rattle.c_types.specs.declared.derivation.Derivation.TheVariants as derivation
use Rattle.c_types.specs.declared.entry.Entry.{Entry}
use Rattle.c_types.specs.declared.entry.Entry.TheVariants.{NoParameters, Parameters}
use Rattle.c_tree.specs.declared.operation.Operation.{Operation}
use Rattle.c_tree.specs.declared.operation.Operation.TheVariants as op
use Rattle.c_tree.specs.declared.declared.Declared.TheVariants as declared
use Rattle.c_tree.specs.declared.declared.Linkage.TheVariants.{External}
use Rattle.c_scope.specs.Scopes.{Names, no_names, with_name, space_of}
use Rattle.c_expr_rules.specs.Outcomes.{State}
use Rattle.c_expr_rules.specs.TypedExpressions.{part_of, type_at}
use Rattle.c_file_rules.specs.Types.{Table, with_type, derived, parameter_list}

-- ---- their types, as they are written

pub data Written : Type 0 where
  VoidType : Written
  Kind : CIntType → Written
  AtomicKind : CIntType → Written
  PointerTo : Written → Written
  FunctionOf : (parameter result : Written) → Written

abbrev pub function_type : Table → (result : Part) → (types : List ℕ) → Table × Part
function_type table result types =
    let list = parameter_list table types in derived list.0 result (derivation.Function list.1 false ∷ [])

abbrev pub written_type : Table → Written → Table × Part
written_type table VoidType = with_type table Void
written_type table (Kind k) = with_type table (Integer k)
written_type table (AtomicKind k) = let made = with_type table (Integer k) in (made.0, part_of made.1.number 8)
written_type table (PointerTo w) =
    let made = written_type table w in derived made.0 made.1 (derivation.Pointer (record { 0 = 0 }) ∷ [])
written_type table (FunctionOf parameter result) =
    let r = written_type table result in
    let p = written_type r.0 parameter in
    function_type p.0 r.1 (p.1.number ∷ [])

abbrev pub written_types : Table → List Written → Table × List ℕ
written_types table [] = (table, [])
written_types table (w ∷ ws) =
    let first = written_type table w in
    let others = written_types first.0 ws in
    (others.0, first.1.number ∷ others.1)

abbrev pub object : Written
object = PointerTo VoidType

-- what a thread begins with: `int(void*)`
abbrev pub thread_function : Written
thread_function = FunctionOf object (Kind kind.Int)

-- ---- the functions

pub record Intrinsic : Type 0 where
  pub operation : Operation
  pub name : List ℕ
  pub result : Written
  pub parameters : List Written

abbrev pub intrinsic : Operation → (name : List ℕ) → (result : Written) → (parameters : List Written) → Intrinsic
intrinsic operation name result parameters =
    record { operation = operation; name = name; result = result; parameters = parameters }

abbrev pub intrinsics : List Intrinsic
intrinsics =
    intrinsic op.New (codes "__filc_new") object (Kind kind.UnsignedLong ∷ []) ∷
    intrinsic op.Free (codes "__filc_free") VoidType (object ∷ []) ∷
    intrinsic op.Size (codes "__filc_size") (Kind kind.UnsignedLong) (object ∷ []) ∷
    intrinsic op.Lock (codes "__filc_lock") VoidType (PointerTo (AtomicKind kind.Int) ∷ []) ∷
    intrinsic op.Out (codes "__filc_out") VoidType (Kind kind.Int ∷ []) ∷
    intrinsic op.Input (codes "__filc_in") (Kind kind.Int) [] ∷
    intrinsic op.Spawn (codes "__filc_spawn") (Kind kind.Long) (PointerTo thread_function ∷ object ∷ []) ∷
    intrinsic op.Join (codes "__filc_join") (Kind kind.Long) (Kind kind.UnsignedLong ∷ []) ∷
    intrinsic op.SelfId (codes "__filc_self") (Kind kind.UnsignedLong) [] ∷
    intrinsic op.Exit (codes "__filc_exit") VoidType (Kind kind.Int ∷ []) ∷
    intrinsic op.Abort (codes "__filc_abort") VoidType [] ∷
    []

-- ---- their numbers, behind so many bodies

-- the operation that the function of this number is
abbrev pub operation_at : (bodies number : ℕ) → Option Operation
operation_at bodies number =
    if nat_lt number bodies
    then None
    else slice_get (map (λ (i : Intrinsic). i.operation) intrinsics ++ op.Out ∷ []) (number - bodies)

-- the number of a function without a body, by its name's: that of `putchar` from int to int is the first
abbrev pub bodiless_number : (bodies : ℕ) → (spelling : List ℕ) → (takes_and_gives_int : Bool) → (name : ℕ) → ℕ
bodiless_number bodies spelling takes_and_gives_int name =
    bodies + length intrinsics +
    (if takes_and_gives_int && bytes_eq spelling (codes "putchar") then 0 else suc name)

-- ---- what a file begins with

abbrev pub with_intrinsic : (number : ℕ) → Intrinsic → Table × Names → Table × Names
with_intrinsic number i start =
    let result = written_type start.0 i.result in
    let types = written_types result.0 i.parameters in
    let ty = function_type types.0 result.1 types.1 in
    let what = declared.Function (record {
      line = 0;
      ty = ty.1.number;
      number = number;
      linkage = External;
      is_defined = true;
    }) in
    (ty.0, with_name (space_of what) (record { name = i.name; what = what }) start.1)

abbrev pub with_intrinsics : (number : ℕ) → List Intrinsic → Table × Names → Table × Names
with_intrinsics number [] start = start
with_intrinsics number (i ∷ rest) start = with_intrinsics (suc number) rest (with_intrinsic number i start)

-- the table of types and the names
abbrev pub start_of : (bodies : ℕ) → Table × Names
start_of bodies = with_intrinsics bodies intrinsics ([], no_names)

-- the number of the type of what a thread begins with
abbrev pub thread_type : Table → ℕ
thread_type table = (written_type table thread_function).1.number

-- ---- the type that `putchar` has

abbrev pub is_int : CType → Bool
is_int (Integer kind.Int) = true
is_int _ = false

abbrev pub takes_nothing : Option Entry → Bool
takes_nothing (Some NoParameters) = true
takes_nothing _ = false

abbrev pub takes_int : State → Option Entry → Bool
takes_int s (Some (Parameters first others)) = is_int (type_at s first) && takes_nothing (slice_get s.table others)
takes_int s _ = false

abbrev pub is_int_to_int : State → CType → Bool
is_int_to_int s (Function f) = is_int (type_at s f.result) && takes_int s (slice_get s.table f.parameters)
is_int_to_int s _ = false
