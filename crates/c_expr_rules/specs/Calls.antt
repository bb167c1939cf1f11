-- Calls (C11 6.5.2.2), and the calls that stand in place: `printf` and the atomic ones.
use Rattle.std.specs.Prelude.{ℕ, suc, ◌==◌, ◌&&◌, ◌||◌, nat_le, nat_lt, Bool, true, false, not, bit_or, List, [], ◌∷◌, ◌++◌, map, length, codes, slice_get, if◌then◌else◌, Option, Some, None}
use Rattle.std.specs.Str.{bytes_eq}
use Rattle.filc_num.specs.declared.integer.IntType.{IntType}
use Rattle.filc_num.specs.declared.integer.BinOp.TheVariants as b
use Rattle.filc_num.specs.declared.c_int_type.CIntType.{CIntType}
use Rattle.filc_num.specs.declared.c_int_type.CIntType.TheVariants as kind
use Rattle.filc_num.specs.CIntTypes.{int_type_of}
use Rattle.c_types.specs.declared.ctype.CType.{CType}
use Rattle.c_types.specs.declared.ctype.CType.TheVariants.{Void, Integer, Enumeration, Pointer, ArrayOf, Function, Structure, Union}
use Rattle.c_types.specs.declared.ctype.Part.{Part}
use Rattle.c_types.specs.declared.ctype.Signature.{Signature}
use Rattle.c_types.specs.declared.entry.Entry.{Entry}
use Rattle.c_types.specs.declared.entry.Entry.TheVariants.{OfType, NoParameters, Parameters}
use Rattle.c_tree.specs.declared.expr.Expr.{Expr}
use Rattle.c_tree.specs.declared.expr.Expr.TheVariants as tree
use Rattle.c_tree.specs.declared.operation.Operation.{Operation}
use Rattle.c_tree.specs.declared.operation.Operation.TheVariants as op
use Rattle.c_tree.specs.declared.operation.Piece.{Piece}
use Rattle.c_tree.specs.declared.operation.Piece.TheVariants as piece
pub use Rattle.c_expr_rules.specs.declared.arguments.Wanted.{Wanted}
pub use Rattle.c_expr_rules.specs.declared.arguments.Wanted.TheVariants.{Anything, Listed, Past}
pub use Rattle.c_expr_rules.specs.declared.arguments.Arguments.{Arguments}
pub use Rattle.c_expr_rules.specs.declared.special.AtomicCall.{AtomicCall}
pub use Rattle.c_expr_rules.specs.declared.special.AtomicCall.TheVariants.{Load as AtomicLoad, Store as AtomicStore, Exchange as AtomicExchange, CompareExchange as AtomicCompareExchange, Fetch as AtomicFetch}
pub use Rattle.c_expr_rules.specs.declared.special.Special.{Special}
pub use Rattle.c_expr_rules.specs.declared.special.Special.TheVariants.{Printing, Atomic}
pub use Rattle.c_expr_rules.specs.declared.printer.Printer.{Printer}
pub use Rattle.c_expr_rules.specs.declared.printer.Mode.{Mode}
pub use Rattle.c_expr_rules.specs.declared.printer.Mode.TheVariants.{Text, Percent, Long}
use Rattle.c_expr_rules.specs.declared.known.Known.TheVariants as known
use Rattle.c_expr_rules.specs.IntegerTypes.{rank_of, promotion}
use Rattle.c_expr_rules.specs.Outcomes.{State, Checked, by_rules, ◌breaks◌, also, outcome_with}
use Rattle.c_expr_rules.specs.TypedExpressions.{Typed, Place, Designator, Made, tree_of, made_of, with_operation, value, kind_value, type_at, is_integer, pointed_part, is_atomic, access_of}
use Rattle.c_expr_rules.specs.Converting.{integer_as, conversion, is_none, or_itself}
use Rattle.c_expr_rules.specs.Operators.{kind_in}

-- ---- arguments and parameters

abbrev pub first_of_entry : Option Entry → Option ℕ
first_of_entry (Some (Parameters first others)) = Some first
first_of_entry (Some NoParameters) = None
first_of_entry (Some (OfType ty)) = None
first_of_entry None = None

abbrev pub others_of_entry : Option Entry → Wanted
others_of_entry (Some (Parameters first others)) = Listed others
others_of_entry (Some NoParameters) = Past
others_of_entry (Some (OfType ty)) = Past
others_of_entry None = Past

abbrev pub wanted_type : State → Wanted → Option ℕ
wanted_type s Anything = None
wanted_type s (Listed parameters) = first_of_entry (slice_get s.table parameters)
wanted_type s Past = None

abbrev pub following : State → Wanted → Wanted
following s Anything = Anything
following s (Listed parameters) = others_of_entry (slice_get s.table parameters)
following s Past = Past

abbrev pub is_no_entry : Option Entry → Bool
is_no_entry (Some NoParameters) = true
is_no_entry (Some (Parameters first others)) = false
is_no_entry (Some (OfType ty)) = false
is_no_entry None = false

-- after all arguments, whether they are as many as the parameters
abbrev pub are_all : State → Wanted → Bool
are_all s Anything = true
are_all s (Listed parameters) = is_no_entry (slice_get s.table parameters)
are_all s Past = false

abbrev pub argument_to : (line : ℕ) → Option ℕ → Checked Typed → Checked Typed
argument_to line None found = found
argument_to line (Some number) found =
    outcome_with (λ s x. or_itself x (conversion s (type_at s number) x)) (also line 18 (λ s x. is_none (conversion s (type_at s number) x)) found)

-- an argument is converted where it stands: rule 18 is broken by the argument's expression, before later ones are looked at
abbrev pub argument : (line : ℕ) → State → Wanted → Checked Typed → Checked Typed
argument line s wanted found = argument_to line (wanted_type s wanted) found

abbrev pub no_arguments : Wanted → Arguments
no_arguments wanted = record { values = []; wanted = wanted }

abbrev pub with_argument : Typed → Arguments → Arguments
with_argument x a = record a { values = x ∷ a.values }

abbrev pub trees_of : List Typed → List Expr
trees_of values = map (λ (x : Typed). tree_of x.made) values

-- ---- calls of functions: rules 20 and 21

abbrev pub signature_of_type : CType → Option Signature
signature_of_type (Function signature) = Some signature
signature_of_type Void = None
signature_of_type (Integer k) = None
signature_of_type (Enumeration tag) = None
signature_of_type (Pointer to) = None
signature_of_type (ArrayOf a) = None
signature_of_type (Structure tag contents) = None
signature_of_type (Union tag contents) = None

abbrev pub signature_in : State → Option Part → Option Signature
signature_in s None = None
signature_in s (Some to) = signature_of_type (type_at s to.number)

-- the function type that a value points to
abbrev pub signature_of : State → Typed → Option Signature
signature_of s f = signature_in s (pointed_part f.ty)

abbrev pub wanted_by : Option Signature → Wanted
wanted_by None = Anything
wanted_by (Some signature) = Listed signature.parameters

abbrev pub is_callable : Option Signature → Bool
is_callable None = false
is_callable (Some signature) = true

abbrev pub result_in : State → Option Signature → CType
result_in s None = Void
result_in s (Some signature) = type_at s signature.result

abbrev pub number_in : Option Part → ℕ
number_in None = 0
number_in (Some to) = to.number

-- an intrinsic is one operation, and any other function is called by its number
abbrev pub direct_call : Option Operation → ℕ → Operation
direct_call None number = op.Call number
direct_call (Some operation) number = operation

-- a function that is named is called directly, any other through its pointer
abbrev pub call_made : (intrinsic : ℕ → Option Operation) (kind_of : ℕ → ℕ) → ℕ → Place → Typed → List Expr → Made
call_made intrinsic kind_of line (Designator (Some number) ty) f operands = made_of line (tree.Apply line (direct_call (intrinsic number) number) operands)
call_made intrinsic kind_of line _ f operands = with_operation line (op.CallPointer (kind_of (number_in (pointed_part f.ty)))) operands f.made

abbrev pub call : (intrinsic : ℕ → Option Operation) (kind_of : ℕ → ℕ) → ℕ → Place → Typed → State → Arguments → Checked Typed
call intrinsic kind_of line place f s a =
    let signature = signature_of s f in
    by_rules line (20 breaks not (is_callable signature) ∷ 21 breaks not (are_all s a.wanted) ∷ []) s
    (value (result_in s signature) line (call_made intrinsic kind_of line place f (trees_of a.values)) known.Nothing)

-- ---- names that stand for no function, but are called

pub record SpecialName : Type 0 where
  pub name : List ℕ
  pub what : Special

abbrev pub special : List ℕ → Special → SpecialName
special name what = record { name = name; what = what }

-- `printf` is there where what it stands for is
abbrev pub printing_names : Option Printer → List SpecialName
printing_names None = []
printing_names (Some f) = special (codes "__filc_printf") (Printing f) ∷ []

-- those that change an object by an operator
abbrev pub fetch_names : List SpecialName
fetch_names =
    special (codes "__filc_atomic_fetch_add") (Atomic (AtomicFetch b.Add)) ∷
    special (codes "__filc_atomic_fetch_sub") (Atomic (AtomicFetch b.Sub)) ∷
    special (codes "__filc_atomic_fetch_or") (Atomic (AtomicFetch b.Or)) ∷
    special (codes "__filc_atomic_fetch_xor") (Atomic (AtomicFetch b.Xor)) ∷
    special (codes "__filc_atomic_fetch_and") (Atomic (AtomicFetch b.And)) ∷
    []

abbrev pub atomic_names : List SpecialName
atomic_names =
    special (codes "__filc_atomic_load") (Atomic AtomicLoad) ∷
    special (codes "__filc_atomic_store") (Atomic AtomicStore) ∷
    special (codes "__filc_atomic_exchange") (Atomic AtomicExchange) ∷
    special (codes "__filc_atomic_compare_exchange") (Atomic AtomicCompareExchange) ∷
    fetch_names

abbrev pub special_names : Option Printer → List SpecialName
special_names printer = printing_names printer ++ atomic_names

abbrev pub special_among : List SpecialName → List ℕ → Option Special
special_among [] name = None
special_among (x ∷ xs) name = if bytes_eq name x.name then Some x.what else special_among xs name

-- ---- atomic calls: rule 23 for each fault of their operands

-- what the first operand points to, where that is atomic
abbrev pub atomic_part : Option Part → Option Part
atomic_part None = None
atomic_part (Some to) = if is_atomic to.qualifiers.0 then Some to else None

-- further operands are integers, which are evaluated and dropped: the value waits
abbrev pub are_orders : List Typed → Bool
are_orders [] = true
are_orders (x ∷ xs) = is_integer x.ty && are_orders xs

abbrev pub waits_for : List Typed → Made → Made
waits_for [] m = m
waits_for (x ∷ xs) m = waits_for xs (with_operation m.line (op.Advance 0) (tree_of x.made ∷ []) m)

-- one further operand may follow
abbrev pub may_follow : List Typed → Bool
may_follow rest = nat_le (length rest) 1 && are_orders rest

abbrev pub is_none_or_two : ℕ → Bool
is_none_or_two n = n == 0 || n == 2

-- the expected operand of an exchange points to the plain type
abbrev pub points_to_plain : ℕ → Option Part → Bool
points_to_plain number None = false
points_to_plain number (Some to) = to.number == number && to.qualifiers.0 == 0

-- an atomic call that is none gives nothing
pub record AtomicResult : Type 0 where
  pub is_good : Bool
  pub ty : CType
  pub made : Made

abbrev pub bad_atomic : ℕ → AtomicResult
bad_atomic line = record { is_good = false; ty = Void; made = made_of line (tree.Apply line op.Abort []) }

abbrev pub desired_tree : State → CType → Typed → List Typed → Made
desired_tree s ty v orders = waits_for orders (or_itself v (conversion s ty v)).made

abbrev pub is_desired : State → CType → Typed → Bool
is_desired s ty v = not (is_none (conversion s ty v))

abbrev pub computed_type : Typed → CType → IntType
computed_type p ty = int_type_of (promotion (kind_in (record p { ty = ty })))

abbrev pub object_type : Typed → CType → IntType
object_type p ty = int_type_of (kind_in (record p { ty = ty }))

-- on an atomic object of this type, whose plain type has this number
abbrev pub atomic_on : State → ℕ → AtomicCall → (number : ℕ) → CType → List Typed → AtomicResult
atomic_on s line AtomicLoad number ty (p ∷ rest) =
    record { is_good = may_follow rest; ty = ty; made = with_operation line (op.Load (access_of ty 8)) [] (waits_for rest p.made) }
atomic_on s line AtomicStore number ty (p ∷ v ∷ rest) =
    record { is_good = is_desired s ty v && may_follow rest; ty = Void; made = with_operation line (op.Store (access_of ty 8)) (tree_of (desired_tree s ty v rest) ∷ []) p.made }
atomic_on s line AtomicExchange number ty (p ∷ v ∷ rest) =
    record { is_good = is_desired s ty v && may_follow rest; ty = ty; made = with_operation line (op.Swap (access_of ty 8)) (tree_of (desired_tree s ty v rest) ∷ []) p.made }
atomic_on s line AtomicCompareExchange number ty (p ∷ e ∷ v ∷ rest) =
    record {
      is_good = points_to_plain number (pointed_part e.ty) && (is_desired s ty v && (is_none_or_two (length rest) && are_orders rest));
      ty = Integer kind.Bool;
      made = with_operation line (op.Cas (access_of ty 8)) (tree_of e.made ∷ tree_of (desired_tree s ty v rest) ∷ []) p.made;
    }
atomic_on s line (AtomicFetch operator) number ty (p ∷ v ∷ rest) =
    record {
      is_good = is_integer ty && (is_desired s ty v && may_follow rest);
      ty = ty;
      made = with_operation line (op.Fetch (object_type p ty) operator (computed_type p ty)) (tree_of (desired_tree s ty v rest) ∷ []) p.made;
    }
atomic_on s line what number ty _ = bad_atomic line

abbrev pub atomic_at : State → ℕ → AtomicCall → Option Part → List Typed → AtomicResult
atomic_at s line what None values = bad_atomic line
atomic_at s line what (Some to) values = atomic_on s line what to.number (type_at s to.number) values

abbrev pub atomic_result : State → ℕ → AtomicCall → List Typed → AtomicResult
atomic_result s line what [] = bad_atomic line
atomic_result s line what (p ∷ rest) = atomic_at s line what (atomic_part (pointed_part p.ty)) (p ∷ rest)

abbrev pub atomic_call : ℕ → AtomicCall → State → Arguments → Checked Typed
atomic_call line what s a =
    let r = atomic_result s line what a.values in by_rules line (23 breaks not r.is_good ∷ []) s (value r.ty line r.made known.Nothing)

-- ---- printf: rule 22

-- what a directive takes, and the piece that it is of the operand of this number
pub record Directive : Type 0 where
  pub takes : Typed → Bool
  pub gives : Typed → Typed
  pub piece : ℕ → Piece

abbrev pub is_small : Typed → Bool
is_small x = is_integer x.ty && nat_le (rank_of (kind_in x)) 3

abbrev pub is_great : Typed → Bool
is_great x = is_integer x.ty && nat_lt 3 (rank_of (kind_in x))

abbrev pub as_kind : CIntType → Typed → Typed
as_kind k x = integer_as (Integer k) k (kind_in x) x

abbrev pub is_char : CType → Bool
is_char (Integer kind.Char) = true
is_char _ = false

-- a pointer to char, plain or const
abbrev pub is_text_part : State → Option Part → Bool
is_text_part s None = false
is_text_part s (Some to) = is_char (type_at s to.number) && (bit_or to.qualifiers.0 1 == 1)

abbrev pub itself : Typed → Typed
itself x = x

abbrev pub small : CIntType → (ℕ → Piece) → Directive
small k p = record { takes = is_small; gives = as_kind k; piece = p }

abbrev pub great : CIntType → (ℕ → Piece) → Directive
great k p = record { takes = is_great; gives = as_kind k; piece = p }

-- the letters d, u, x, c and s
abbrev pub directive : State → Printer → ℕ → Option Directive
directive s f letter =
    if letter == 100 then Some (small kind.Int (λ n. piece.Put f.signed n None)) else (
    if letter == 117 then Some (small kind.UnsignedInt (λ n. piece.Put f.unsigned n (Some 10))) else (
    if letter == 120 then Some (small kind.UnsignedInt (λ n. piece.Put f.unsigned n (Some 16))) else (
    if letter == 99 then Some (small kind.Int (λ n. piece.Out n)) else (
    if letter == 115 then Some (record { takes = (λ x. is_text_part s (pointed_part x.ty)); gives = itself; piece = (λ n. piece.Put f.text n None) }) else None))))

-- and behind an l
abbrev pub long_directive : Printer → ℕ → Option Directive
long_directive f letter =
    if letter == 100 then Some (great kind.Long (λ n. piece.Put f.signed n None)) else (
    if letter == 117 then Some (great kind.UnsignedLong (λ n. piece.Put f.unsigned n (Some 10))) else (
    if letter == 120 then Some (great kind.UnsignedLong (λ n. piece.Put f.unsigned n (Some 16))) else None))

pub record Printout : Type 0 where
  pub operands : List Expr
  pub pieces : List Piece

abbrev pub with_byte : ℕ → Option Printout → Option Printout
with_byte c None = None
with_byte c (Some p) = Some (record p { pieces = piece.Byte c ∷ p.pieces })

abbrev pub with_operand : Directive → ℕ → Typed → Option Printout → Option Printout
with_operand d n x None = None
with_operand d n x (Some p) = if d.takes x then Some (record { operands = tree_of (d.gives x).made ∷ p.operands; pieces = d.piece n ∷ p.pieces }) else None

abbrev pub all_printed : List Typed → Option Printout
all_printed [] = Some (record { operands = []; pieces = [] })
all_printed (x ∷ xs) = None

-- a directive takes the next operand
abbrev pub with_directive : Option Directive → ℕ → List Typed → (List Typed → Option Printout) → Option Printout
with_directive None n xs rest = None
with_directive (Some d) n [] rest = None
with_directive (Some d) n (x ∷ xs) rest = with_operand d n x (rest xs)

-- what a format prints of these operands, of which the first has the number n: it ends at its first NUL; None where it is bad
abbrev pub printout : State → Printer → Mode → List ℕ → ℕ → List Typed → Option Printout
printout s f Text [] n xs = all_printed xs
printout s f Text (c ∷ cs) n xs = if c == 0 then all_printed xs else (if c == 37 then printout s f Percent cs n xs else with_byte c (printout s f Text cs n xs))
printout s f Percent [] n xs = None
printout s f Percent (c ∷ cs) n xs =
    if c == 37 then with_byte 37 (printout s f Text cs n xs) else (
    if c == 108 then printout s f Long cs n xs else with_directive (directive s f c) n xs (λ xs. printout s f Text cs (suc n) xs))
printout s f Long [] n xs = None
printout s f Long (c ∷ cs) n xs = with_directive (long_directive f c) n xs (λ xs. printout s f Text cs (suc n) xs)

abbrev pub is_not_printed : Option Printout → Bool
is_not_printed None = true
is_not_printed (Some p) = false

abbrev pub print_made : ℕ → Printer → Option Printout → Made
print_made line f None = made_of line (tree.Apply line op.Abort [])
print_made line f (Some p) = made_of line (tree.Print line (tree.Apply line (op.Static f.lock) [] ∷ p.operands) p.pieces)

abbrev pub print_value : ℕ → Printer → Option Printout → Typed
print_value line f p = kind_value kind.Int line (print_made line f p) known.Nothing

-- with a literal as format; it gives the number of bytes
abbrev pub print_call : ℕ → Printer → List ℕ → State → Arguments → Checked Typed
print_call line f format s a =
    let p = printout s f Text format 1 a.values in by_rules line (22 breaks is_not_printed p ∷ []) s (print_value line f p)

-- with anything else
abbrev pub bad_print : ℕ → Printer → State → Arguments → Checked Typed
bad_print line f s a = by_rules line (22 breaks true ∷ []) s (print_value line f None)
