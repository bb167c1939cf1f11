-- What a typed expression is: each kind of expression, with the rules that can hold of it (C11 6.5).
--
-- The recursion says the order: operands from left to right, each with all that is in it, and then the expression itself. A
-- list of operators of one level is as many constructs as it has operators, each with what stands before it. All of them have the
-- line of the list's first token.
--
-- kind of expression          rules, the lowest first
-- name                        1
-- text                        5
-- operand of sizeof           4
-- sizeof, _Alignof of a type  4
-- operand that is read        4
-- what = ++ -- or op= changes 4, before the right side is looked at
-- .                           9 16
-- ->                          9 15 16
-- [ ]                         15 17
-- unary *                     15
-- unary &                     14
-- ++ -- and op=               12 13 17
-- =                           12 13 18
-- other operators             17
-- ? :                         17 24
-- cast                        19
-- argument                    18
-- call                        20 21, printf 22, an atomic call 23
-- ( ) and ,                   none
use Rattle.std.specs.Prelude.{ℕ, ◌+◌, ◌&&◌, ◌||◌, ◌==◌, nat_lt, Bool, true, false, not, bit_or, List, [], ◌∷◌, ◌++◌, length, if◌then◌else◌, Option, Some, None}
use Rattle.filc_num.specs.declared.integer.BinOp.{BinOp}
use Rattle.filc_num.specs.declared.integer.BinOp.TheVariants as b
use Rattle.filc_num.specs.declared.c_int_type.CIntType.{CIntType}
use Rattle.filc_num.specs.declared.c_int_type.CIntType.TheVariants as kind
use Rattle.filc_num.specs.declared.statics.StaticHalf.TheVariants as half
use Rattle.c_parts.specs.declared.span.Span.{Span}
use Rattle.c_syntax.specs.declared.expr.Expr.{Expr}
use Rattle.c_syntax.specs.declared.expr.TypeName.{TypeName}
use Rattle.c_syntax.specs.declared.expr.ExprKind.{ExprKind, Name, Number, Character, Text, Parens', Postfix', Prefix', SizeofExpr', SizeofType', AlignofType', Cast', Chain', Conditional', Assign', Comma', Row_of-Expr, end_of-Expr, more_of-Expr, Row_of-Postfix, end_of-Postfix, more_of-Postfix, Row_of-Link, end_of-Link, more_of-Link, end_of-TypeName, more_of-TypeName}
use Rattle.c_syntax.specs.declared.expr.PostfixKind.{PostfixKind, Index', Call', Member, Arrow, Increment, Decrement}
use Rattle.c_syntax.specs.declared.words.Prefix.{Prefix}
use Rattle.c_syntax.specs.declared.words.Prefix.TheVariants as prefix
use Rattle.c_syntax.specs.declared.words.Operator.{Operator}
use Rattle.c_syntax.specs.declared.words.Operator.TheVariants as operator
use Rattle.c_types.specs.declared.entry.Entry.{Entry}
use Rattle.c_types.specs.declared.ctype.CType.{CType}
use Rattle.c_types.specs.declared.ctype.CType.TheVariants.{Pointer}
use Rattle.c_types.specs.declared.ctype.Part.{Part}
use Rattle.c_types.specs.Sizes.{room_of}
use Rattle.c_tree.specs.declared.declared.Declared.{Declared}
use Rattle.c_tree.specs.declared.declared.Declared.TheVariants as declared
use Rattle.c_tree.specs.declared.declared.DeclaredObject.{DeclaredObject}
use Rattle.c_tree.specs.declared.declared.DeclaredFunction.{DeclaredFunction}
use Rattle.c_tree.specs.declared.declared.ObjectNumber.{ObjectNumber}
use Rattle.c_tree.specs.declared.declared.ObjectNumber.TheVariants.{Static, Local}
use Rattle.c_tree.specs.declared.expr.Expr.TheVariants as tree
use Rattle.c_tree.specs.declared.operation.Operation.{Operation}
use Rattle.c_tree.specs.declared.operation.Operation.TheVariants as op
pub use Rattle.c_expr_rules.specs.declared.typed.Tests.{Tests}
use Rattle.c_expr_rules.specs.declared.known.Known.{Known}
use Rattle.c_expr_rules.specs.declared.known.Known.TheVariants as known
use Rattle.c_expr_rules.specs.Outcomes.{State, MemberPlace, Contents, Checked, Fine, next, by_rules, ◌breaks◌, inner, unevaluated, also, outcome_with}
use Rattle.c_expr_rules.specs.Constants.{known_logic, known_forward}
use Rattle.c_expr_rules.specs.TypedExpressions.{Typed, Place, Value, InLocal, InMemory, InValue, VoidAt, Designator, plain, tree_of, made_of, leaf, with_operation, value, kind_value, constant, type_at, is_integer, is_pointer, is_scalar, is_array, is_record, is_complete, record_number, size_of, or_zero, pointed_part, part_of, always_has_home}
use Rattle.c_expr_rules.specs.Reading.{read, read_found, target_found, is_register, behind}
use Rattle.c_expr_rules.specs.Converting.{is_cast, cast_to}
use Rattle.c_expr_rules.specs.Operators.{takes, Sum, sum, binary, negative, complement, plus, negation, known_test, test_tree, choice, assignment, compound, step, one_at, contents_of, room_align}
use Rattle.c_expr_rules.specs.Calls.{Wanted, Anything, Arguments, no_arguments, with_argument, argument, following, signature_of, wanted_by, call, Special, Printing, Atomic, Printer, special_among, special_names, print_call, bad_print, atomic_call}

-- ---- what is round an expression

-- What a file's later part decides is taken as known: which locals have their address taken, the numbers of functions, which are those
-- of their bodies in order, and those of the types that pointers to functions are called by. So a pass ahead finds them, or the
-- numbers are put in at the end.
pub record Around : Type 0 where
  -- the type and the value of a number, and the value of a character, by the token's number
  pub number : ℕ → CIntType × ℕ
  pub character : ℕ → ℕ
  -- the bytes of the texts from one token to another, which are one, without the zero behind them
  pub text : ℕ → ℕ → List ℕ
  -- the letters of a name
  pub spelling : ℕ → List ℕ
  -- whether the address of a local is taken somewhere in its function
  pub has_home : ℕ → Bool
  -- the number of a function's type among those of functions, by its number in the table
  pub kind_of : ℕ → ℕ
  -- the functions that are one operation each, by their numbers
  pub intrinsic : ℕ → Option Operation
  -- what `printf` stands for, where it is there
  pub printer : Option Printer
  -- a table with the type of an array of so many char, and that type's number
  pub char_array : List Entry → ℕ → List Entry × ℕ
  -- a table with an array's type where its innermost elements have these qualifiers too, and that type. The definition of
  -- declarations says which one it is
  pub qualified_array : List Entry → Part → (quals : ℕ) → List Entry × Part
  -- which type a type name names; what it declares is declared then. The definition of declarations says it, of type names
  -- in which less nests
  pub named_type : State → TypeName → Checked Part

-- ---- names (6.5.1p2)

abbrev pub with_used : Declared → State → State
with_used d s = record s { used = d ∷ s.used }

abbrev pub in_memory : State → ℕ → Part → Bool → Operation → Known → Typed
in_memory s line part is_register operation k =
    record { ty = type_at s part.number; quals = part.qualifiers; place = InMemory part.number is_register; line = line; made = leaf line operation; known = k; is_null = false; of_register = false }

-- a local with a home is in memory, and any other is its value
abbrev pub local_typed : Around → State → ℕ → DeclaredObject → ℕ → Typed
local_typed around s line o local =
    if always_has_home (type_at s o.ty.number) o.ty.qualifiers.0 || around.has_home local
    then in_memory s line o.ty o.is_register (op.Local local) known.Nothing
    else record (in_memory s line o.ty o.is_register (op.Local local) known.Nothing) { place = InLocal local o.ty.number o.is_register }

abbrev pub object_typed : Around → State → ℕ → DeclaredObject → ObjectNumber → Typed
object_typed around s line o (Static number) = in_memory s line o.ty o.is_register (op.Static number) (known.Address (half.Object number) 0)
object_typed around s line o (Local local) = local_typed around s line o local

abbrev pub function_typed : State → ℕ → DeclaredFunction → Typed
function_typed s line f =
    record {
      ty = type_at s f.ty;
      quals = plain;
      place = Designator (Some f.number) f.ty;
      line = line;
      made = leaf line (op.Function f.number);
      known = known.Address (half.Function f.number) 0;
      is_null = false;
      of_register = false;
    }

abbrev pub unknown_name : ℕ → State → Checked Typed
unknown_name line s = by_rules line (1 breaks true ∷ []) s (constant kind.Int line 0)

abbrev pub name_typed : Around → ℕ → State → Option Declared → Checked Typed
name_typed around line s None = unknown_name line s
name_typed around line s (Some (declared.Object o)) = Fine (with_used (declared.Object o) s) (object_typed around s line o o.number)
name_typed around line s (Some (declared.Function f)) = Fine (with_used (declared.Function f) s) (function_typed s line f)
name_typed around line s (Some (declared.Constant v)) = Fine s (constant kind.Int line v)
name_typed around line s (Some (declared.Typedef ty)) = unknown_name line s
name_typed around line s (Some (declared.Tag tag)) = unknown_name line s

-- ---- texts (6.4.5): an array of char, which is a static object of its own

abbrev pub with_literal : List ℕ → State → State
with_literal bytes s = record s { next_static = s.next_static + 1; literals = record { number = s.next_static; bytes = bytes } ∷ s.literals }

abbrev pub is_too_long : List ℕ → Bool
is_too_long bytes = nat_lt 131072 (length bytes + 1)

abbrev pub text_in : ℕ → List ℕ → State → List Entry × ℕ → Checked Typed
text_in line bytes s made =
    let after = record (with_literal bytes s) { table = made.0 } in
    by_rules line (5 breaks is_too_long bytes ∷ []) after (in_memory after line (part_of made.1 0) false (op.Static s.next_static) (known.Address (half.Object s.next_static) 0))

abbrev pub text_typed : Around → ℕ → List ℕ → State → Checked Typed
text_typed around line bytes s = text_in line bytes s (around.char_array s.table (length bytes + 1))

-- ---- sizes (6.5.3.4)

abbrev pub size_value : ℕ → CType → Typed
size_value line ty = constant kind.UnsignedLong line (or_zero (size_of ty))

-- of a type that is named; an operand that is an expression breaks rule 4 itself
abbrev pub size_typed : ℕ → CType → State → Checked Typed
size_typed line ty s = by_rules line (4 breaks not (is_complete ty) ∷ []) s (size_value line ty)

abbrev pub align_typed : ℕ → CType → State → Checked Typed
align_typed line ty s = by_rules line (4 breaks not (is_complete ty) ∷ []) s (constant kind.UnsignedLong line (room_align (room_of ty)))

-- ---- members (6.5.2.3): rules 9, 15 and 16

abbrev pub member_among : ℕ → List MemberPlace → Option MemberPlace
member_among name [] = None
member_among name (m ∷ members) = if name == m.name then Some m else member_among name members

abbrev pub member_in : ℕ → Option Contents → Option MemberPlace
member_in name None = None
member_in name (Some c) = member_among name c.members

abbrev pub member_of : State → ℕ → CType → Option MemberPlace
member_of s name ty = member_in name (contents_of s (record_number ty))

abbrev pub is_missing : Option MemberPlace → Bool
is_missing None = true
is_missing (Some m) = false

-- a part of a place is one, and of a register object; a part of a value is none, but may be of a register object
abbrev pub place_of_part : (of_register : Bool) → Place → ℕ → Place
place_of_part of_register (InMemory n is_register) number = InMemory number is_register
place_of_part of_register (InLocal local n is_register) number = InMemory number is_register
place_of_part of_register Value number = InValue number of_register
place_of_part of_register (InValue n is_register) number = InValue number is_register
place_of_part of_register (VoidAt n) number = InValue number false
place_of_part of_register (Designator f n) number = InValue number false

-- a member's type has the qualifiers of both (6.5.2.3p3), and those of an array are its elements' (6.7.3p9). So the table may grow
abbrev pub member_part : Around → State → (quals : ℕ) → Part → List Entry × Part
member_part around s quals part =
    if is_array (type_at s part.number) then around.qualified_array s.table part quals else (s.table, part_of part.number (bit_or quals part.qualifiers.0))

abbrev pub with_table : State → List Entry → State
with_table s table = record s { table = table }

-- the member at this offset
abbrev pub part_at : ℕ → State → Typed → (offset : ℕ) → Part → Typed
part_at line s t offset part =
    record {
      ty = type_at s part.number;
      quals = part.qualifiers;
      place = place_of_part t.of_register t.place part.number;
      line = line;
      made = with_operation line (op.Offset offset) [] t.made;
      known = known_forward offset t.known (known.Integer 1);
      is_null = false;
      of_register = false;
    }

abbrev pub part_with : ℕ → State → Typed → (offset : ℕ) → List Entry × Part → State × Typed
part_with line s t offset made =
    let after = with_table s made.0 in (after, part_at line after t offset made.1)

-- what a member is, and the state after it
abbrev pub member_value : Around → ℕ → State → Typed → Option MemberPlace → State × Typed
member_value around line s t None = (s, t)
member_value around line s t (Some m) = part_with line s t m.offset (member_part around s t.quals.0 m.part)

abbrev pub member : Around → ℕ → ℕ → State → Typed → Checked Typed
member around line name s t =
    let found = member_value around line s t (member_of s name t.ty) in
    by_rules line (9 breaks (is_record t.ty && is_missing (member_of s name t.ty)) ∷ 16 breaks not (is_record t.ty) ∷ []) found.0 found.1

abbrev pub behind_pointer : ℕ → State → Typed → Option Part → Typed
behind_pointer line s t None = t
behind_pointer line s t (Some to) = behind s line t to.number to.qualifiers (type_at s to.number)

-- what a pointer's value points to
abbrev pub pointed_typed : ℕ → State → Typed → Typed
pointed_typed line s t = behind_pointer line s t (pointed_part t.ty)

abbrev pub arrow : Around → ℕ → ℕ → State → Typed → Checked Typed
arrow around line name s t =
    let x = pointed_typed line s t in
    let found = member_value around line s x (member_of s name x.ty) in
    by_rules line (9 breaks (is_pointer t.ty && (is_record x.ty && is_missing (member_of s name x.ty))) ∷ 15 breaks not (is_pointer t.ty) ∷ 16 breaks not (is_record x.ty) ∷ []) found.0 found.1

-- ---- `a[i]` is `*(a+i)` (6.5.2.1): rules 15 and 17

abbrev pub index : ℕ → Typed → State → Typed → Checked Typed
index line x s y =
    by_rules line (15 breaks not (is_pointer x.ty || is_pointer y.ty) ∷ 17 breaks not (takes Sum s x y) ∷ []) s (pointed_typed line s (sum s line x y))

-- ---- operators before an operand (6.5.3)

abbrev pub has_address : Place → Bool
has_address (Designator function number) = true
has_address (InMemory number r) = not r
has_address (InLocal local number r) = not r
has_address Value = false
has_address (InValue number r) = false
has_address (VoidAt number) = true

abbrev pub number_of_place : Place → ℕ
number_of_place (Designator function number) = number
number_of_place (InMemory number r) = number
number_of_place (InLocal local number r) = number
number_of_place Value = 0
number_of_place (InValue number r) = number
number_of_place (VoidAt number) = number

abbrev pub with_taken : Option ℕ → State → State
with_taken None s = s
with_taken (Some local) s = record s { taken = local ∷ s.taken }

-- `&`: rule 14
abbrev pub address : ℕ → Option ℕ → State → Typed → Checked Typed
address line local s t =
    by_rules line (14 breaks not (has_address t.place) ∷ []) (with_taken local s) (value (Pointer (part_of (number_of_place t.place) t.quals.0)) line t.made t.known)

-- `*`: rule 15
abbrev pub dereference : ℕ → State → Typed → Checked Typed
dereference line s t = by_rules line (15 breaks not (is_pointer t.ty) ∷ []) s (pointed_typed line s t)

abbrev pub on_integer : ℕ → State → Typed → Typed → Checked Typed
on_integer line s t result = by_rules line (17 breaks not (is_integer t.ty) ∷ []) s result

abbrev pub prefixed : ℕ → Option ℕ → Prefix → Checked Typed → Checked Typed
prefixed line local prefix.Increment found = next (target_found found) (λ s t. compound line b.Add t s (one_at line))
prefixed line local prefix.Decrement found = next (target_found found) (λ s t. compound line b.Sub t s (one_at line))
prefixed line local prefix.AddressOf found = next found (λ s t. address line local s t)
prefixed line local prefix.Dereference found = next (read_found found) (λ s t. dereference line s t)
prefixed line local prefix.Plus found = next (read_found found) (λ s t. on_integer line s t (plus line t))
prefixed line local prefix.Minus found = next (read_found found) (λ s t. on_integer line s t (negative line t))
prefixed line local prefix.Complement found = next (read_found found) (λ s t. on_integer line s t (complement line t))
prefixed line local prefix.Not found = next (read_found found) (λ s t. by_rules line (17 breaks not (is_scalar t.ty) ∷ []) s (negation line t))

-- ---- casts (6.5.4): rule 19

abbrev pub cast : ℕ → CType → State → Typed → Checked Typed
cast line ty s t = by_rules line (19 breaks not (is_cast ty t.ty) ∷ []) s (cast_to s ty (record t { line = line }))

-- ---- `&&` and `||` (6.5.13, 6.5.14): rule 17

abbrev pub first_test : State → Typed → Tests
first_test s x = record { operands = tree_of (test_tree x) ∷ []; known = known_test x; is_scalar = is_scalar x.ty }

abbrev pub with_test : ℕ → Bool → Tests → State → Typed → Checked Tests
with_test line all t s y =
    by_rules line (17 breaks not (t.is_scalar && is_scalar y.ty) ∷ []) s
    (record { operands = t.operands ++ tree_of (test_tree y) ∷ []; known = known_logic all t.known (known_test y); is_scalar = true })

abbrev pub logic : ℕ → Bool → State → Tests → Typed
logic line all s t = kind_value kind.Int line (made_of line (tree.Logic line all t.operands)) t.known

-- ---- the comma (6.5.17): its value comes from its second operand

abbrev pub second : ℕ → Typed → Typed → Typed
second line x y = record (value y.ty line (with_operation line op.Second (tree_of y.made ∷ []) x.made) known.Nothing) { of_register = y.of_register }

abbrev pub assigned_with : ℕ → Option BinOp → Typed → State → Typed → Checked Typed
assigned_with line None t s v = assignment line t s v
assigned_with line (Some operator) t s v = compound line operator t s v

-- ---- which operators a list of one level has

pub data Level : Type 0 where
  Arithmetic : Level
  Logical : (all : Bool) → Level

abbrev pub level_of_operator : Operator → Level
level_of_operator (operator.Binary o) = Arithmetic
level_of_operator operator.LogicalAnd = Logical true
level_of_operator operator.LogicalOr = Logical false

abbrev pub level_of : {m : _} → Row_of-Link m → Level
level_of end_of-Link = Arithmetic
level_of (more_of-Link span o s k rest) = level_of_operator o

abbrev pub by_level : Level → Checked Typed → (Bool → Checked Typed) → Checked Typed
by_level Arithmetic found tests = found
by_level (Logical all) found tests = tests all

abbrev pub linked_value : ℕ → Operator → Typed → State → Typed → Checked Typed
linked_value line (operator.Binary o) x s y = binary line o x s y
linked_value line operator.LogicalAnd x s y = Fine s x
linked_value line operator.LogicalOr x s y = Fine s x

-- ---- names through parentheses

abbrev pub name_in : ExprKind → Option ℕ
name_in (Name n) = Some n
name_in (Parens' p (more_of-Expr span k end_of-Expr)) = name_in k
name_in _ = None

abbrev pub special_if_unknown : Option Printer → Option Declared → List ℕ → Option Special
special_if_unknown printer None name = special_among (special_names printer) name
special_if_unknown printer (Some d) name = None

-- a name that is declared nowhere, but may be called
abbrev pub special_named : Around → State → Option ℕ → Option Special
special_named around s None = None
special_named around s (Some n) = special_if_unknown around.printer (s.visible (around.spelling n)) (around.spelling n)

abbrev pub local_number : ObjectNumber → Option ℕ
local_number (Static n) = None
local_number (Local n) = Some n

abbrev pub local_of : Option Declared → Option ℕ
local_of (Some (declared.Object o)) = local_number o.number
local_of _ = None

-- the local that is named
abbrev pub local_named : Around → State → Option ℕ → Option ℕ
local_named around s None = None
local_named around s (Some n) = local_of (s.visible (around.spelling n))

-- ---- calls of functions that are one operation

abbrev pub is_operation : Option Operation → Bool
is_operation None = false
is_operation (Some operation) = true

abbrev pub stands_for_operation : Around → Option Declared → Bool
stands_for_operation around (Some (declared.Function f)) = is_operation (around.intrinsic f.number)
stands_for_operation around _ = false

abbrev pub names_operation : Around → State → Option ℕ → Bool
names_operation around s None = false
names_operation around s (Some n) = stands_for_operation around (s.visible (around.spelling n))

abbrev pub is_call : PostfixKind → Bool
is_call (Call' z arguments) = true
is_call _ = false

abbrev pub begins_with_call : {m : _} → Row_of-Postfix m → Bool
begins_with_call end_of-Postfix = false
begins_with_call (more_of-Postfix span o rest) = is_call o

-- a function that is one operation isn't used by being called, as an operand that isn't evaluated uses nothing
abbrev pub without_use : Bool → State → Checked Typed → Checked Typed
without_use false before found = found
without_use true before found = next found (λ after t. Fine (unevaluated before after) t)

-- ---- the format of `printf`

abbrev pub is_text : ExprKind → Bool
is_text Text = true
is_text _ = false

-- a text that is a format is no object
abbrev pub print_with : Around → Printer → ℕ → Span → State → (State → Checked Arguments) → Checked Typed
print_with around f line span s rest =
    let format = around.text span.first span.last in
    next (by_rules span.line (5 breaks is_too_long format ∷ []) s format) (λ s _. next (rest s) (λ s a. print_call line f format s a))

-- the first operand of `printf`, as it is where it is no format, and the others
abbrev pub typed_format : Around → Printer → ℕ → Span → ExprKind → Checked Typed → State → (State → Checked Arguments) → Checked Typed
typed_format around f line span k found s rest =
    if is_text k then print_with around f line span s rest else next (read_found found) (λ s x. next (rest s) (λ s a. bad_print line f s a))

-- ---- expressions

abbrev mutual
  pub typed_kind : Around → Span → State → ExprKind → Checked Typed
  typed_kind around span s (Name n) = name_typed around span.line s (s.visible (around.spelling n))
  typed_kind around span s Number = Fine s (constant (around.number span.first).0 span.line (around.number span.first).1)
  typed_kind around span s Character = Fine s (constant kind.Int span.line (around.character span.first))
  typed_kind around span s Text = text_typed around span.line (around.text span.first span.last) s
  typed_kind around span s (Parens' p (more_of-Expr s1 k1 end_of-Expr)) = inner (typed_kind around s1 s k1)
  typed_kind around span s (Postfix' p (more_of-Expr s1 k1 end_of-Expr) z operators) =
      typed_postfix around span.line s (special_named around s (name_in k1))
      (without_use (begins_with_call operators && names_operation around s (name_in k1)) s (typed_kind around s1 s k1)) operators
  typed_kind around span s (Prefix' operator p (more_of-Expr s1 k1 end_of-Expr)) =
      prefixed span.line (local_named around s (name_in k1)) operator (typed_kind around s1 s k1)
  typed_kind around span s (SizeofExpr' p (more_of-Expr s1 k1 end_of-Expr)) =
      next (also s1.line 4 (λ s t. not (is_complete t.ty)) (typed_kind around s1 s k1)) (λ after t. Fine (unevaluated s after) (size_value span.line t.ty))
  typed_kind around span s (SizeofType' p (more_of-TypeName ty end_of-TypeName)) =
      next (around.named_type s ty) (λ s part. size_typed span.line (type_at s part.number) s)
  typed_kind around span s (AlignofType' p (more_of-TypeName ty end_of-TypeName)) =
      next (around.named_type s ty) (λ s part. align_typed span.line (type_at s part.number) s)
  typed_kind around span s (Cast' p (more_of-TypeName ty end_of-TypeName) q (more_of-Expr s1 k1 end_of-Expr)) =
      next (around.named_type s ty) (λ s part. next (read_found (typed_kind around s1 s k1)) (λ s t. cast span.line (type_at s part.number) s t))
  typed_kind around span s (Chain' p (more_of-Expr s1 k1 end_of-Expr) z links) =
      let found = read_found (typed_kind around s1 s k1) in
      by_level (level_of links) (typed_links around span.line found links) (λ all. outcome_with (logic span.line all) (typed_tests around span.line all (outcome_with first_test found) links))
  typed_kind around span s (Conditional' p (more_of-Expr s1 k1 end_of-Expr) q (more_of-Expr s2 k2 end_of-Expr) r (more_of-Expr s3 k3 end_of-Expr)) =
      next (read_found (typed_kind around s1 s k1)) (λ s test.
      next (read_found (typed_kind around s2 s k2)) (λ s x.
      next (read_found (typed_kind around s3 s k3)) (λ s y. choice span.line test x s y)))
  typed_kind around span s (Assign' operator p (more_of-Expr s1 k1 end_of-Expr) q (more_of-Expr s2 k2 end_of-Expr)) =
      next (target_found (typed_kind around s1 s k1)) (λ s t.
      next (read_found (typed_kind around s2 s k2)) (λ s v. assigned_with span.line operator t s v))
  typed_kind around span s (Comma' p (more_of-Expr s1 k1 end_of-Expr) z rest) =
      typed_commas around span.line (read_found (typed_kind around s1 s k1)) rest

  -- operators behind an operand, which may be a name that only a call knows
  pub typed_postfix : {m : _} → Around → ℕ → State → Option Special → Checked Typed → Row_of-Postfix m → Checked Typed
  typed_postfix around line s special found end_of-Postfix = found
  typed_postfix around line s None found (more_of-Postfix span o rest) = typed_operators around line (typed_operator around line found o) rest
  typed_postfix around line s (Some special) found (more_of-Postfix span o rest) =
      typed_operators around line (typed_special around line s special found o) rest

  pub typed_operators : {m : _} → Around → ℕ → Checked Typed → Row_of-Postfix m → Checked Typed
  typed_operators around line found end_of-Postfix = found
  typed_operators around line found (more_of-Postfix span o rest) = typed_operators around line (typed_operator around line found o) rest

  pub typed_operator : Around → ℕ → Checked Typed → PostfixKind → Checked Typed
  typed_operator around line found (Index' p (more_of-Expr s1 k1 end_of-Expr)) =
      next (read_found found) (λ s x. next (read_found (typed_kind around s1 s k1)) (λ s y. index line x s y))
  typed_operator around line found (Call' z arguments) =
      next found (λ s t. next (read s t) (λ s f. next (typed_arguments around (wanted_by (signature_of s f)) s arguments) (λ s a.
      call around.intrinsic around.kind_of line t.place f s a)))
  typed_operator around line found (Member n) = next found (λ s t. member around line n s t)
  typed_operator around line found (Arrow n) = next (read_found found) (λ s t. arrow around line n s t)
  typed_operator around line found Increment = next (target_found found) (λ s t. step line b.Add s t)
  typed_operator around line found Decrement = next (target_found found) (λ s t. step line b.Sub s t)

  -- a call of such a name; the format of `printf` is a text itself
  pub typed_special : Around → ℕ → State → Special → Checked Typed → PostfixKind → Checked Typed
  typed_special around line s (Printing f) found (Call' z arguments) = typed_print around f line s arguments
  typed_special around line s (Atomic what) found (Call' z arguments) =
      next (typed_arguments around Anything s arguments) (λ s a. atomic_call line what s a)
  typed_special around line s special found (Index' p i) = inner found
  typed_special around line s special found (Member n) = inner found
  typed_special around line s special found (Arrow n) = inner found
  typed_special around line s special found Increment = inner found
  typed_special around line s special found Decrement = inner found

  pub typed_print : {m : _} → Around → Printer → ℕ → State → Row_of-Expr m → Checked Typed
  typed_print around f line s end_of-Expr = bad_print line f s (no_arguments Anything)
  typed_print around f line s (more_of-Expr span k rest) = typed_format around f line span k (typed_kind around span s k) s (λ s. typed_arguments around Anything s rest)

  -- arguments, each converted where it stands
  pub typed_arguments : {m : _} → Around → Wanted → State → Row_of-Expr m → Checked Arguments
  typed_arguments around wanted s end_of-Expr = Fine s (no_arguments wanted)
  typed_arguments around wanted s (more_of-Expr span k rest) =
      next (argument span.line s wanted (read_found (typed_kind around span s k))) (λ s x.
      next (typed_arguments around (following s wanted) s rest) (λ s a. Fine s (with_argument x a)))

  pub typed_links : {m : _} → Around → ℕ → Checked Typed → Row_of-Link m → Checked Typed
  typed_links around line found end_of-Link = found
  typed_links around line found (more_of-Link span o s1 k1 rest) =
      typed_links around line (next found (λ s x. next (read_found (typed_kind around s1 s k1)) (λ s y. linked_value line o x s y))) rest

  pub typed_tests : {m : _} → Around → ℕ → Bool → Checked Tests → Row_of-Link m → Checked Tests
  typed_tests around line all found end_of-Link = found
  typed_tests around line all found (more_of-Link span o s1 k1 rest) =
      typed_tests around line all (next found (λ s t. next (read_found (typed_kind around s1 s k1)) (λ s y. with_test line all t s y))) rest

  pub typed_commas : {m : _} → Around → ℕ → Checked Typed → Row_of-Expr m → Checked Typed
  typed_commas around line found end_of-Expr = found
  typed_commas around line found (more_of-Expr s1 k1 rest) =
      typed_commas around line (next found (λ s x. next (read_found (typed_kind around s1 s k1)) (λ s y. Fine s (second line x y)))) rest

-- an expression, as a place or a value
abbrev pub typed_expression : Around → State → Expr → Checked Typed
typed_expression around s e = typed_kind around e.span s e.kind

-- an expression's value
abbrev pub typed_value : Around → State → Expr → Checked Typed
typed_value around s e = read_found (typed_expression around s e)
