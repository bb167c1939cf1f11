-- Expressions whose types, trees and rules were worked out by hand, which the checker computes. Names and types are numbers.
use Rattle.std.proofs.Common.{◌≡◌, ℕ, true, false, List, [], ◌∷◌, refl, ◌<◌}
use Rattle.std.specs.Prelude.{◌==◌, ◌&&◌, ◌/◌, length, if◌then◌else◌, codes, Option, Some, None}
use Rattle.filc_num.specs.declared.integer.IntType.TheVariants as i
use Rattle.filc_num.specs.declared.integer.BinOp.TheVariants as b
use Rattle.filc_num.specs.declared.c_int_type.CIntType.TheVariants as kind
use Rattle.filc_num.specs.Integers.{convert_of, binary_of}
use Rattle.filc_num.specs.declared.statics.StaticHalf.TheVariants as half
use Rattle.c_syntax.specs.declared.expr.Expr.{Expr}
use Rattle.c_syntax.specs.declared.expr.PostfixKind.{Member, Arrow, Increment, Decrement}
use Rattle.c_syntax.specs.declared.expr.TypeName.{TypeName}
use Rattle.c_syntax.specs.declared.words.Operator.TheVariants as o
use Rattle.c_syntax.specs.declared.words.Prefix.TheVariants as p
use Rattle.c_types.specs.declared.ctype.CType.{CType}
use Rattle.c_types.specs.declared.ctype.CType.TheVariants as ty
use Rattle.c_types.specs.declared.ctype.Extent.{Extent}
use Rattle.c_types.specs.declared.entry.Entry.{Entry}
use Rattle.c_types.specs.declared.entry.Entry.TheVariants.{OfType, NoParameters, Parameters}
use Rattle.c_tree.specs.declared.declared.Declared.{Declared}
use Rattle.c_tree.specs.declared.declared.Declared.TheVariants as declared
use Rattle.c_tree.specs.declared.declared.DeclaredObject.{DeclaredObject}
use Rattle.c_tree.specs.declared.declared.DeclaredFunction.{DeclaredFunction}
use Rattle.c_tree.specs.declared.declared.ObjectNumber.{ObjectNumber}
use Rattle.c_tree.specs.declared.declared.ObjectNumber.TheVariants.{Static, Local}
use Rattle.c_tree.specs.declared.expr.Expr.{Expr as Tree}
use Rattle.c_tree.specs.declared.expr.Expr.TheVariants as tree
use Rattle.c_tree.specs.declared.operation.Operation.{Operation}
use Rattle.c_tree.specs.declared.operation.Operation.TheVariants as op
use Rattle.c_tree.specs.declared.operation.Access.TheVariants as access
use Rattle.c_tree.specs.declared.operation.Change.TheVariants as change
use Rattle.c_tree.specs.declared.operation.Piece.TheVariants as piece
use Rattle.c_expr_rules.specs.declared.known.Known.{Known}
use Rattle.c_expr_rules.specs.declared.known.Known.TheVariants as known
use Rattle.c_scope.specs.Scopes.{no_names}
use Rattle.c_expr_rules.specs.Outcomes.{State, Contents, Checked, Fine, Breaks, Broke}
use Rattle.c_expr_rules.specs.TypedExpressions.{Typed, tree_of, part_of, link, unit_of}
use Rattle.c_expr_rules.specs.Expressions.{Around, typed_value}
use Rattle.c_expr_rules.specs.Contexts.{condition, switch_value, result, integer_constant, assertion_constant, without_fault, constant_in}
use Rattle.c_expr_rules.specs.Temporaries.{temporaries_of}
use Rattle.c_expr_rules.proofs.WrittenExpressions.{name, number, text, parens, before, after, index, called_with, called_with_two, called, pair, three, choice, assign, assign_by, comma, size_of, cast, add, sub, divide, less, equal, int_array, size_of_type}

-- ---- what is seen of an answer

data Seen : Type 0 where
  Is : CType → Tree → Seen
  Stops : (rule line : ℕ) → Seen

abbrev seen_of : Checked Typed → Seen
seen_of (Fine s t) = Is t.ty (tree_of t.made)
seen_of (Breaks broken s known) = Stops broken.rule broken.line
seen_of (Broke broken) = Stops broken.rule broken.line

-- ---- trees on line 1

abbrev leaf : Operation → Tree
leaf x = tree.Apply 1 x []

abbrev then_do : Tree → Operation → List Tree → Tree
then_do x f zs = tree.Chain 1 x (link f zs ∷ [])

abbrev int : CType
int = ty.Integer kind.Int

-- ---- what is declared

-- with any object and function for what doesn't matter here, and any extent
module _ (object : DeclaredObject) (function : DeclaredFunction) (extent : Extent) (two : 0 < 2) (four : 0 < 4) (t : TypeName) where
  abbrev table : List Entry
  table =
      OfType ty.Void ∷
      OfType int ∷
      OfType (ty.Integer kind.Char) ∷
      OfType (ty.Pointer (part_of 1 0)) ∷
      OfType (ty.Pointer (part_of 1 1)) ∷
      OfType (ty.Pointer (part_of 0 0)) ∷
      NoParameters ∷
      Parameters 3 6 ∷
      OfType (ty.Function (record { result = 1; parameters = 7; more = false })) ∷
      OfType (ty.ArrayOf (record { element = part_of 1 0; extent = extent; count = 2; some = two })) ∷
      OfType (ty.Structure 10 (Some extent)) ∷
      OfType (ty.Structure 11 None) ∷
      OfType (ty.Pointer (part_of 11 0)) ∷
      OfType (ty.Integer kind.UnsignedInt) ∷
      OfType (ty.ArrayOf (record { element = part_of 2 0; extent = extent; count = 4; some = four })) ∷
      OfType (ty.Structure 15 (Some extent)) ∷
      OfType (ty.Pointer (part_of 10 0)) ∷
      OfType (ty.Integer kind.Long) ∷
      OfType (ty.ArrayOf (record { element = part_of 1 1; extent = extent; count = 2; some = two })) ∷
      []

  abbrev object_of : ObjectNumber → (ty quals : ℕ) → Option Declared
  object_of n t quals = Some (declared.Object (record object { ty = part_of t quals; number = n; is_register = false }))

  abbrev register_of : ObjectNumber → (ty quals : ℕ) → Option Declared
  register_of n t quals = Some (declared.Object (record object { ty = part_of t quals; number = n; is_register = true }))

  -- of the row of names, the one of this number
  abbrev among : List (Option Declared) → ℕ → ℕ → Option Declared
  among [] n x = None
  among (d ∷ ds) n x = if x == n then d else among ds (Rattle.std.specs.Prelude.suc n) x

  -- 0 int a; 1 int b, with a home; 2 int *p; 3 static const int *q; 4 int f(int *); 5 static struct s, a member of which is const;
  -- 6 static int array[2]; 7 const int c; 8 register int r; 9 unsigned u; 10 static _Atomic int n; 11 void *v;
  -- 12 struct incomplete *k; 13 an enumeration constant 0; 14 char h; 15 struct s *t; 16 static struct w; 17 register int x[2];
  -- 18 const struct w; 19 register struct w; 20 int *_Atomic
  abbrev declarations : List (Option Declared)
  declarations =
      object_of (Local 0) 1 0 ∷
      object_of (Local 1) 1 0 ∷
      object_of (Local 2) 3 0 ∷
      object_of (Static 0) 4 0 ∷
      Some (declared.Function (record function { ty = 8; number = 0 })) ∷
      object_of (Static 1) 10 0 ∷
      object_of (Static 2) 9 0 ∷
      object_of (Local 3) 1 1 ∷
      register_of (Local 4) 1 0 ∷
      object_of (Local 5) 13 0 ∷
      object_of (Static 3) 1 8 ∷
      object_of (Local 6) 5 0 ∷
      object_of (Local 7) 12 0 ∷
      Some (declared.Constant 0) ∷
      object_of (Local 8) 2 0 ∷
      object_of (Local 9) 16 0 ∷
      object_of (Static 4) 15 0 ∷
      register_of (Local 10) 9 0 ∷
      object_of (Local 11) 15 1 ∷
      register_of (Local 12) 15 0 ∷
      object_of (Local 13) 3 8 ∷
      []

  abbrev members : ℕ → Option Contents
  members n =
      if n == 10
      then Some (record {
        members = record { name = 70; part = part_of 1 0; offset = 0 } ∷ record { name = 71; part = part_of 1 1; offset = 4 } ∷ [];
        has_const = true;
      })
      else (
      if n == 15
      then Some (record {
        members = record { name = 73; part = part_of 9 0; offset = 0 } ∷ record { name = 74; part = part_of 1 0; offset = 8 } ∷ [];
        has_const = false;
      })
      else None)

  -- a name has one letter, its number
  abbrev among_letters : List ℕ → Option Declared
  among_letters (x ∷ []) = among declarations 0 x
  among_letters letters = None

  abbrev start : State
  start =
      record {
        visible = among_letters;
        table = table;
        contents = members;
        next_static = 5;
        literals = [];
        used = [];
        taken = [];
        above = record { names = no_names; next_local = 0; locals = []; placed = []; filled = [] };
      }

  abbrev spelled : ℕ → List ℕ
  spelled x =
      if x == 90 then codes "__filc_printf" else (if x == 91 then codes "__filc_atomic_load" else (if x == 92 then codes "__filc_atomic_fetch_add" else x ∷ []))

  -- token 1 is the text "abc", 2 is "%d", 3 is "a%%" and 4 is "%5d"
  abbrev texts : ℕ → List ℕ
  texts n = if n == 1 then codes "abc" else (if n == 2 then codes "%d" else (if n == 3 then codes "a%%" else codes "%5d"))

  -- where each type name names the type of this number
  abbrev around : ℕ → Around
  around type_number =
      record {
        number = (λ n. (kind.Int, n));
        character = (λ n. n);
        text = (λ first last. texts first);
        spelling = spelled;
        has_home = (λ n. n == 1);
        kind_of = (λ n. n);
        intrinsic = (λ n. None);
        printer = Some (record { lock = 9; text = 1; unsigned = 2; signed = 3 });
        char_array = (λ t n. (t, 14));
        qualified_array = (λ t part quals. if part.number == 9 && quals == 1 then (t, part_of 18 0) else (t, part));
        named_type = (λ s t. Fine s (part_of type_number 0));
      }

  abbrev seen : Expr → Seen
  seen x = seen_of (typed_value (around 1) start x)

  -- a cast to the type of this number
  abbrev seen_cast : ℕ → (line : ℕ) → Expr → Seen
  seen_cast n line x = seen_of (typed_value (around n) start (cast t line x))

  abbrev seen_constant : Expr → Seen
  seen_constant x = seen_of (integer_constant (around 1) start x)

  -- an integer constant's value
  abbrev value_of : Checked Typed → Option ℕ
  value_of (Fine s t) = constant_in t.known
  value_of (Breaks broken s known) = None
  value_of (Broke broken) = None

  abbrev known_of : Expr → Option ℕ
  known_of x = value_of (typed_value (around 1) start x)

  abbrev known_in : Checked Typed → Known
  known_in (Fine s t) = t.known
  known_in (Breaks broken s k) = known.Nothing
  known_in (Broke broken) = known.Nothing

  abbrev used_in : Checked Typed → ℕ
  used_in (Fine s t) = length s.used
  used_in (Breaks broken s known) = 0
  used_in (Broke broken) = 0

  abbrev used_by : Expr → ℕ
  used_by x = used_in (typed_value (around 1) start x)

  abbrev taken_in : Checked Typed → List ℕ
  taken_in (Fine s t) = s.taken
  taken_in (Breaks broken s known) = []
  taken_in (Broke broken) = []

  abbrev taken_by : Expr → List ℕ
  taken_by x = taken_in (typed_value (around 1) start x)

  -- ---- rule 1: names

  local_value : seen (name 1 0) ≡ Is int (leaf (op.Local 0))
  local_value = refl

  home_value : seen (name 1 1) ≡ Is int (then_do (leaf (op.Local 1)) (op.Load (access.Integer i.I32)) [])
  home_value = refl

  unknown_name : seen (pair 1 (name 1 0) add (name 2 99)) ≡ Stops 1 2
  unknown_name = refl

  -- a name that only a call knows
  printf_alone : seen (name 3 90) ≡ Stops 1 3
  printf_alone = refl

  -- ---- the order: the first construct that breaks a rule, the inner one first

  unknown_then_no_pointer : seen (pair 1 (name 1 99) add (before 2 p.Dereference (name 2 0))) ≡ Stops 1 1
  unknown_then_no_pointer = refl

  no_pointer_then_unknown : seen (pair 1 (before 1 p.Dereference (name 1 0)) add (name 2 99)) ≡ Stops 15 1
  no_pointer_then_unknown = refl

  inner_first : seen (before 1 p.Dereference (parens 1 (pair 1 (name 1 0) add (name 2 99)))) ≡ Stops 1 2
  inner_first = refl

  right_side_first : seen (assign 1 (number 1 1) (name 2 99)) ≡ Stops 1 2
  right_side_first = refl

  then_the_assignment : seen (assign 1 (number 1 1) (number 2 2)) ≡ Stops 12 1
  then_the_assignment = refl

  -- of several rules that one construct breaks, the lowest

  no_pointer_and_no_structure : seen (after 1 (name 1 0) (Arrow 70)) ≡ Stops 15 1
  no_pointer_and_no_structure = refl

  no_structure : seen (after 1 (name 1 2) (Arrow 70)) ≡ Stops 16 1
  no_structure = refl

  bad_choices_and_no_scalar : seen (choice 1 (name 1 5) (name 1 2) (number 1 1)) ≡ Stops 17 1
  bad_choices_and_no_scalar = refl

  no_scalar : seen (choice 1 (name 1 5) (number 1 2) (number 1 1)) ≡ Stops 24 1
  no_scalar = refl

  no_place_and_bad_conversion : seen (assign 1 (number 1 1) (name 1 2)) ≡ Stops 12 1
  no_place_and_bad_conversion = refl

  const_and_bad_conversion : seen (assign 1 (name 1 7) (name 1 2)) ≡ Stops 13 1
  const_and_bad_conversion = refl

  -- a bad argument that is a call with too many arguments breaks both rules; in parentheses the call comes first

  argument_and_count : seen (after 1 (name 1 4) (called_with (after 2 (name 2 4) (called_with_two (name 2 2) (name 2 2))))) ≡ Stops 18 2
  argument_and_count = refl

  count_then_argument : seen (after 1 (name 1 4) (called_with (parens 2 (after 3 (name 3 4) (called_with_two (name 3 2) (name 3 2)))))) ≡ Stops 21 3
  count_then_argument = refl

  -- ---- rule 4: what is read or measured has a size

  read_incomplete : seen (before 1 p.Dereference (name 1 12)) ≡ Stops 4 1
  read_incomplete = refl

  address_of_incomplete : seen (before 1 p.AddressOf (before 1 p.Dereference (name 1 12))) ≡ Is (ty.Pointer (part_of 11 0)) (leaf (op.Local 7))
  address_of_incomplete = refl

  size_of_pointer : seen (size_of 1 (name 1 2)) ≡ Is (ty.Integer kind.UnsignedLong) (leaf (op.Number 8))
  size_of_pointer = refl

  size_of_function : seen (size_of 1 (name 1 4)) ≡ Stops 4 1
  size_of_function = refl

  -- the operand is what has no size
  size_of_incomplete : seen (size_of 1 (before 2 p.Dereference (name 2 12))) ≡ Stops 4 2
  size_of_incomplete = refl

  size_of_unknown : seen (size_of 1 (name 2 99)) ≡ Stops 1 2
  size_of_unknown = refl

  -- ---- rule 5: texts

  text_decays : seen (text 1 1) ≡ Is (ty.Pointer (part_of 2 0)) (leaf (op.Static 5))
  text_decays = refl

  -- ---- rules 9 and 16: members

  member_read : seen (after 1 (name 1 5) (Member 70)) ≡ Is int (tree.Chain 1 (leaf (op.Static 1)) (link (op.Offset 0) [] ∷ link (op.Load (access.Integer i.I32)) [] ∷ []))
  member_read = refl

  member_behind_pointer : seen (after 1 (name 1 15) (Arrow 71)) ≡ Is int (tree.Chain 1 (leaf (op.Local 9)) (link (op.Offset 4) [] ∷ link (op.Load (access.Integer i.I32)) [] ∷ []))
  member_behind_pointer = refl

  -- the elements of an array in a const structure are const

  const_array_member : seen (before 1 p.AddressOf (after 1 (name 1 18) (Member 73))) ≡ Is (ty.Pointer (part_of 18 0)) (then_do (leaf (op.Local 11)) (op.Offset 0) [])
  const_array_member = refl

  const_array_member_decays : seen (after 1 (name 1 18) (Member 73)) ≡ Is (ty.Pointer (part_of 1 1)) (then_do (leaf (op.Local 11)) (op.Offset 0) [])
  const_array_member_decays = refl

  const_array_member_is_no_plain_one : seen (pair 1 (before 1 p.AddressOf (after 1 (name 1 18) (Member 73))) equal (before 1 p.AddressOf (name 1 6))) ≡ Stops 17 1
  const_array_member_is_no_plain_one = refl

  plain_array_member : seen (pair 1 (before 1 p.AddressOf (after 1 (name 1 16) (Member 73))) equal (before 1 p.AddressOf (name 1 6))) ≡ Is int (tree.Chain 1 (leaf (op.Static 4)) (link (op.Offset 0) [] ∷ link (op.Compare b.Eq) (leaf (op.Static 2) ∷ []) ∷ []))
  plain_array_member = refl

  unknown_member : seen (after 1 (name 1 5) (Member 72)) ≡ Stops 9 1
  unknown_member = refl

  member_of_incomplete : seen (after 1 (name 1 12) (Arrow 70)) ≡ Stops 9 1
  member_of_incomplete = refl

  member_of_int : seen (after 1 (name 1 0) (Member 70)) ≡ Stops 16 1
  member_of_int = refl

  -- ---- rules 12 and 13: assignment

  char_to_int : seen (assign 1 (name 1 0) (name 1 14)) ≡ Is int (tree.Chain 1 (leaf (op.Local 8)) (link (op.Convert i.I32) [] ∷ link (op.SetLocal 0) [] ∷ []))
  char_to_int = refl

  stored : seen (assign 1 (name 1 1) (name 1 0)) ≡ Is int (then_do (leaf (op.Local 1)) (op.Store (access.Integer i.I32)) (leaf (op.Local 0) ∷ []))
  stored = refl

  function_assigned : seen (assign 1 (name 1 4) (number 1 0)) ≡ Stops 12 1
  function_assigned = refl

  const_assigned : seen (assign 1 (name 1 7) (number 1 1)) ≡ Stops 13 1
  const_assigned = refl

  array_assigned : seen (assign 1 (name 1 6) (name 1 0)) ≡ Stops 13 1
  array_assigned = refl

  const_member_in_structure : seen (assign 1 (name 1 5) (name 1 5)) ≡ Stops 13 1
  const_member_in_structure = refl

  const_member_assigned : seen (assign 1 (after 1 (name 1 15) (Arrow 71)) (number 1 1)) ≡ Stops 13 1
  const_member_assigned = refl

  structure_copied : seen (assign 1 (name 1 16) (name 1 16)) ≡ Is (ty.Structure 15 (Some extent)) (then_do (leaf (op.Static 4)) (op.Copy (unit_of extent.align) (extent.size / extent.align)) (leaf (op.Static 4) ∷ []))
  structure_copied = refl

  member_of_assigned : seen (assign 1 (after 1 (parens 1 (assign 1 (name 1 16) (name 1 16))) (Member 74)) (number 1 1)) ≡ Stops 12 1
  member_of_assigned = refl

  atomic_pointer_read : seen (name 1 20) ≡ Is (ty.Pointer (part_of 1 0)) (then_do (leaf (op.Local 13)) (op.Load access.Box) [])
  atomic_pointer_read = refl

  atomic_pointer_moves : seen (after 1 (name 1 20) Increment) ≡ Stops 17 1
  atomic_pointer_moves = refl

  stepped_local : seen (after 1 (name 1 0) Increment) ≡ Is int (then_do (leaf (op.Number 1)) (op.StepLocal 0 (change.Integer b.Add i.I32 i.I32)) [])
  stepped_local = refl

  stepped_home : seen (after 1 (name 1 1) Decrement) ≡ Is int (then_do (leaf (op.Local 1)) (op.Step (access.Integer i.I32) (change.Integer b.Sub i.I32 i.I32)) (leaf (op.Number 1) ∷ []))
  stepped_home = refl

  increment_of_value : seen (before 1 p.Increment (after 1 (name 1 0) Increment)) ≡ Stops 12 1
  increment_of_value = refl

  atomic_update : seen (assign_by 1 b.Add (name 1 10) (name 1 0)) ≡ Is int (then_do (leaf (op.Static 3)) (op.Combine i.I32 b.Add i.I32) (leaf (op.Local 0) ∷ []))
  atomic_update = refl

  pointer_moves : seen (assign_by 1 b.Add (name 1 2) (name 1 0)) ≡ Is (ty.Pointer (part_of 1 0)) (then_do (leaf (op.Local 0)) (op.UpdateLocal 2 (change.Advance 4)) [])
  pointer_moves = refl

  pointer_less_pointer : seen (assign_by 1 b.Sub (name 1 2) (name 1 2)) ≡ Stops 17 1
  pointer_less_pointer = refl

  int_plus_pointer_assigned : seen (assign_by 1 b.Add (name 1 0) (name 1 2)) ≡ Stops 17 1
  int_plus_pointer_assigned = refl

  -- ---- rule 14: addresses

  address_of_home : seen (before 1 p.AddressOf (name 1 1)) ≡ Is (ty.Pointer (part_of 1 0)) (leaf (op.Local 1))
  address_of_home = refl

  address_of_element : seen (before 1 p.AddressOf (after 1 (name 1 6) (index (number 1 1)))) ≡ Is (ty.Pointer (part_of 1 0)) (then_do (leaf (op.Static 2)) (op.Advance 4) (leaf (op.Number 1) ∷ []))
  address_of_element = refl

  address_of_register : seen (before 1 p.AddressOf (name 1 8)) ≡ Stops 14 1
  address_of_register = refl

  address_of_number : seen (before 1 p.AddressOf (number 1 1)) ≡ Stops 14 1
  address_of_number = refl

  address_of_register_element : seen (before 1 p.AddressOf (after 1 (name 1 17) (index (number 1 0)))) ≡ Stops 14 1
  address_of_register_element = refl

  address_behind_register_array : seen (before 1 p.AddressOf (before 1 p.Dereference (pair 1 (number 1 1) add (name 1 17)))) ≡ Stops 14 1
  address_behind_register_array = refl

  -- an element stays one behind a comma, a cast and a choice

  register_element_behind_comma : seen (before 1 p.AddressOf (after 1 (parens 1 (comma 1 (number 1 0) (name 1 17))) (index (number 1 1)))) ≡ Stops 14 1
  register_element_behind_comma = refl

  register_element_behind_cast : seen_of (typed_value (around 3) start (before 1 p.AddressOf (after 1 (parens 1 (cast t 1 (name 1 17))) (index (number 1 1))))) ≡ Stops 14 1
  register_element_behind_cast = refl

  register_element_behind_choice : seen (before 1 p.AddressOf (after 1 (parens 1 (choice 1 (number 1 1) (name 1 2) (name 1 17))) (index (number 1 1)))) ≡ Stops 14 1
  register_element_behind_choice = refl

  -- a structure that is no place is the object that it comes from

  register_element_of_chosen : seen (before 1 p.AddressOf (after 1 (after 1 (parens 1 (choice 1 (number 1 1) (name 1 16) (name 1 19))) (Member 73)) (index (number 1 1)))) ≡ Stops 14 1
  register_element_of_chosen = refl

  register_element_of_assigned : seen (before 1 p.AddressOf (after 1 (after 1 (parens 1 (assign 1 (name 1 19) (name 1 16))) (Member 73)) (index (number 1 1)))) ≡ Stops 14 1
  register_element_of_assigned = refl

  element_of_assigned : seen (after 1 (parens 1 (assign 1 (name 1 16) (name 1 19))) (Member 73)) ≡ Is (ty.Pointer (part_of 1 0)) (tree.Chain 1 (leaf (op.Static 4)) (link (op.Copy (unit_of extent.align) (extent.size / extent.align)) (leaf (op.Local 12) ∷ []) ∷ link (op.Offset 0) [] ∷ []))
  element_of_assigned = refl

  address_behind_void : seen (before 1 p.AddressOf (before 1 p.Dereference (name 1 11))) ≡ Is (ty.Pointer (part_of 0 0)) (leaf (op.Local 6))
  address_behind_void = refl

  void_assigned : seen (assign 1 (before 1 p.Dereference (name 1 11)) (number 1 1)) ≡ Stops 12 1
  void_assigned = refl

  -- ---- rules 15 and 17: pointers

  element : seen (after 1 (name 1 6) (index (number 1 1))) ≡ Is int (tree.Chain 1 (leaf (op.Static 2)) (link (op.Advance 4) (leaf (op.Number 1) ∷ []) ∷ link (op.Load (access.Integer i.I32)) [] ∷ []))
  element = refl

  no_pointer_indexed : seen (after 1 (number 1 1) (index (number 1 2))) ≡ Stops 15 1
  no_pointer_indexed = refl

  pointer_by_pointer : seen (after 1 (name 1 2) (index (name 1 2))) ≡ Stops 17 1
  pointer_by_pointer = refl

  incomplete_element : seen (after 1 (name 1 12) (index (number 1 0))) ≡ Stops 17 1
  incomplete_element = refl

  one_chain : seen (three 1 (name 1 2) add (name 1 0) sub (name 1 2)) ≡ Is (ty.Integer kind.Long) (tree.Chain 1 (leaf (op.Local 2)) (link (op.Advance 4) (leaf (op.Local 0) ∷ []) ∷ link (op.Distance 4) (leaf (op.Local 2) ∷ []) ∷ []))
  one_chain = refl

  int_and_pointer : seen (pair 1 (name 1 0) add (name 1 2)) ≡ Is (ty.Pointer (part_of 1 0)) (then_do (leaf (op.Local 0)) (op.AdvanceBy 4) (leaf (op.Local 2) ∷ []))
  int_and_pointer = refl

  two_pointers_added : seen (pair 1 (name 1 2) add (name 1 2)) ≡ Stops 17 1
  two_pointers_added = refl

  void_pointer_moves : seen (pair 1 (name 1 11) add (name 1 0)) ≡ Stops 17 1
  void_pointer_moves = refl

  void_pointer_is_equal : seen (pair 1 (name 1 2) equal (name 1 11)) ≡ Is int (then_do (leaf (op.Local 2)) (op.Compare b.Eq) (leaf (op.Local 6) ∷ []))
  void_pointer_is_equal = refl

  void_pointer_is_less : seen (pair 1 (name 1 2) less (name 1 11)) ≡ Stops 17 1
  void_pointer_is_less = refl

  null_is_equal : seen (pair 1 (name 1 2) equal (name 1 13)) ≡ Is int (then_do (leaf (op.Local 2)) (op.Compare b.Eq) (then_do (leaf (op.Number 0)) op.ToPointer [] ∷ []))
  unfolding binary_of convert_of
  null_is_equal = refl

  one_is_equal : seen (pair 1 (name 1 2) equal (number 1 1)) ≡ Stops 17 1
  one_is_equal = refl

  -- ---- rule 17: integers, by the usual arithmetic conversions

  promoted_sum : seen (pair 1 (name 1 14) add (name 1 14)) ≡ Is int (then_do (leaf (op.Local 8)) (op.Binary b.Add i.I32) (leaf (op.Local 8) ∷ []))
  promoted_sum = refl

  unsigned_comparison : seen (pair 1 (name 1 0) less (name 1 9)) ≡ Is int (then_do (leaf (op.Local 0)) (op.Binary b.Lt i.U32) (leaf (op.Local 5) ∷ []))
  unsigned_comparison = refl

  shift_by_left_operand : seen (pair 1 (name 1 14) (o.Binary b.Shl) (name 1 9)) ≡ Is int (then_do (leaf (op.Local 8)) (op.Binary b.Shl i.I32) (leaf (op.Local 5) ∷ []))
  shift_by_left_operand = refl

  pointer_product : seen (pair 1 (name 1 2) (o.Binary b.Mul) (name 1 0)) ≡ Stops 17 1
  pointer_product = refl

  negated_pointer : seen (before 1 p.Minus (name 1 2)) ≡ Stops 17 1
  negated_pointer = refl

  both_tests : seen (three 1 (name 1 0) o.LogicalAnd (name 1 2) o.LogicalAnd (name 1 9)) ≡ Is int (tree.Logic 1 true (leaf (op.Local 0) ∷ then_do (leaf (op.Local 2)) (op.ToInteger i.Bool) [] ∷ leaf (op.Local 5) ∷ []))
  both_tests = refl

  structure_tested : seen (three 1 (name 1 0) o.LogicalOr (name 1 5) o.LogicalOr (name 2 99)) ≡ Stops 17 1
  structure_tested = refl

  -- ---- rule 18: conversions

  const_lost : seen (assign 1 (name 1 2) (name 1 3)) ≡ Stops 18 1
  const_lost = refl

  const_gained : seen (assign 1 (name 1 3) (name 1 2)) ≡ Is (ty.Pointer (part_of 1 1)) (then_do (leaf (op.Static 0)) (op.Store access.Pointer) (leaf (op.Local 2) ∷ []))
  const_gained = refl

  null_assigned : seen (assign 1 (name 1 2) (name 1 13)) ≡ Is (ty.Pointer (part_of 1 0)) (tree.Chain 1 (leaf (op.Number 0)) (link op.ToPointer [] ∷ link (op.SetLocal 2) [] ∷ []))
  unfolding binary_of convert_of
  null_assigned = refl

  one_assigned : seen (assign 1 (name 1 2) (number 1 1)) ≡ Stops 18 1
  one_assigned = refl

  bad_argument_first : seen (after 1 (name 1 4) (called_with_two (number 2 1) (name 3 99))) ≡ Stops 18 2
  bad_argument_first = refl

  -- ---- rule 19: casts

  cast_to_unsigned : seen_cast 13 1 (name 1 0) ≡ Is (ty.Integer kind.UnsignedInt) (then_do (leaf (op.Local 0)) (op.Convert i.U32) [])
  unfolding binary_of convert_of
  cast_to_unsigned = refl

  cast_to_same : seen_cast 1 1 (name 1 0) ≡ Is int (leaf (op.Local 0))
  unfolding binary_of convert_of
  cast_to_same = refl

  cast_to_pointer : seen_cast 3 1 (name 1 0) ≡ Is (ty.Pointer (part_of 1 0)) (then_do (leaf (op.Local 0)) op.ToPointer [])
  unfolding binary_of convert_of
  cast_to_pointer = refl

  cast_of_pointer : seen_cast 17 1 (name 1 2) ≡ Is (ty.Integer kind.Long) (then_do (leaf (op.Local 2)) (op.ToInteger i.I64) [])
  unfolding binary_of convert_of
  cast_of_pointer = refl

  cast_to_void : seen_cast 0 1 (name 1 5) ≡ Is ty.Void (leaf (op.Static 1))
  cast_to_void = refl

  cast_to_structure : seen_cast 10 1 (name 1 5) ≡ Stops 19 1
  cast_to_structure = refl

  -- ---- rules 20 and 21: calls

  call : seen (after 1 (name 1 4) (called_with (name 1 2))) ≡ Is int (tree.Apply 1 (op.Call 0) (leaf (op.Local 2) ∷ []))
  call = refl

  call_through_pointer : seen (after 1 (parens 1 (before 1 p.Dereference (name 1 4))) (called_with (name 1 2))) ≡ Is int (then_do (leaf (op.Function 0)) (op.CallPointer 8) (leaf (op.Local 2) ∷ []))
  call_through_pointer = refl

  not_callable : seen (after 1 (name 1 0) (called_with (name 1 2))) ≡ Stops 20 1
  not_callable = refl

  too_many_arguments : seen (after 1 (name 1 4) (called_with_two (name 1 2) (name 1 2))) ≡ Stops 21 1
  too_many_arguments = refl

  no_arguments : seen (after 1 (name 1 4) called) ≡ Stops 21 1
  no_arguments = refl

  -- ---- rule 22: printf

  printed_number : seen (after 1 (name 1 90) (called_with_two (text 1 2) (name 1 0))) ≡ Is int (tree.Print 1 (leaf (op.Static 9) ∷ leaf (op.Local 0) ∷ []) (piece.Put 3 1 None ∷ []))
  unfolding binary_of convert_of
  printed_number = refl

  printed_percent : seen (after 1 (parens 1 (name 1 90)) (called_with (text 1 3))) ≡ Is int (tree.Print 1 (leaf (op.Static 9) ∷ []) (piece.Byte 97 ∷ piece.Byte 37 ∷ []))
  printed_percent = refl

  pointer_as_number : seen (after 1 (name 1 90) (called_with_two (text 1 2) (name 1 2))) ≡ Stops 22 1
  pointer_as_number = refl

  number_missing : seen (after 1 (name 1 90) (called_with (text 1 2))) ≡ Stops 22 1
  number_missing = refl

  bad_directive : seen (after 1 (name 1 90) (called_with_two (text 1 4) (name 1 0))) ≡ Stops 22 1
  bad_directive = refl

  no_format : seen (after 1 (name 1 90) (called_with_two (name 1 2) (name 2 99))) ≡ Stops 1 2
  no_format = refl

  format_in_parentheses : seen (after 1 (name 1 90) (called_with (parens 1 (text 1 3)))) ≡ Stops 22 1
  format_in_parentheses = refl

  -- ---- rule 23: atomic calls

  atomic_load : seen (after 1 (name 1 91) (called_with (before 1 p.AddressOf (name 1 10)))) ≡ Is int (then_do (leaf (op.Static 3)) (op.Load (access.Integer i.I32)) [])
  atomic_load = refl

  atomic_add : seen (after 1 (name 1 92) (called_with_two (before 1 p.AddressOf (name 1 10)) (name 1 0))) ≡ Is int (then_do (leaf (op.Static 3)) (op.Fetch i.I32 b.Add i.I32) (leaf (op.Local 0) ∷ []))
  unfolding binary_of convert_of
  atomic_add = refl

  plain_load : seen (after 1 (name 1 91) (called_with (before 1 p.AddressOf (name 1 1)))) ≡ Stops 23 1
  plain_load = refl

  -- a fault of its operands is that rule, whatever is wanted of it; of a call of printf the type is known
  bad_load_as_argument : seen (after 1 (name 1 4) (called_with (after 2 (name 2 91) (called_with (before 2 p.AddressOf (name 2 1)))))) ≡ Stops 23 2
  bad_load_as_argument = refl

  bad_load_as_result : seen_of (result (around 1) start 3 (after 2 (name 2 91) (called_with_two (before 2 p.AddressOf (name 2 10)) (name 2 2)))) ≡ Stops 23 2
  bad_load_as_result = refl

  bad_format_as_argument : seen (after 1 (name 1 4) (called_with (after 2 (name 2 90) (called_with (name 2 2))))) ≡ Stops 18 2
  bad_format_as_argument = refl

  pointer_added : seen (after 1 (name 1 92) (called_with_two (before 1 p.AddressOf (name 1 10)) (name 1 2))) ≡ Stops 23 1
  pointer_added = refl

  -- ---- rules 10, 18, 24, 25 and 32: what stands round an expression

  zero_divisor : seen_constant (pair 1 (number 1 1) divide (number 1 0)) ≡ Stops 10 1
  unfolding binary_of convert_of
  zero_divisor = refl

  overflow : seen_constant (pair 1 (number 1 2147483647) add (number 1 1)) ≡ Stops 10 1
  unfolding binary_of convert_of
  overflow = refl

  no_overflow_where_none_is_wanted : seen (pair 1 (number 1 2147483647) add (number 1 1)) ≡ Is int (then_do (leaf (op.Number 2147483647)) (op.Binary b.Add i.I32) (leaf (op.Number 1) ∷ []))
  unfolding binary_of convert_of
  no_overflow_where_none_is_wanted = refl

  bits_leave : seen_constant (pair 1 (number 1 1) (o.Binary b.Shl) (number 1 31)) ≡ Is int (then_do (leaf (op.Number 1)) (op.Binary b.Shl i.I32) (leaf (op.Number 31) ∷ []))
  unfolding binary_of convert_of
  bits_leave = refl

  count_out_of_range : seen_constant (pair 1 (number 1 1) (o.Binary b.Shl) (number 1 32)) ≡ Stops 10 1
  unfolding binary_of convert_of
  count_out_of_range = refl

  variable : seen_constant (name 1 0) ≡ Stops 10 1
  variable = refl

  not_evaluated : known_of (pair 1 (number 1 1) o.LogicalOr (pair 1 (number 1 1) divide (number 1 0))) ≡ Some 1
  unfolding binary_of convert_of
  not_evaluated = refl

  not_chosen : known_of (choice 1 (number 1 0) (pair 1 (number 1 1) divide (number 1 0)) (number 1 7)) ≡ Some 7
  unfolding binary_of convert_of
  not_chosen = refl

  assignment_in_form : known_of (choice 1 (number 1 1) (number 1 7) (assign 1 (name 1 0) (number 1 1))) ≡ None
  unfolding binary_of convert_of
  assignment_in_form = refl

  -- no operand of an integer constant is a pointer, evaluated or not

  pointer_beside_or : seen_of (integer_constant (around 3) start (pair 1 (number 1 1) o.LogicalOr (cast t 1 (parens 1 (pair 1 (number 1 1) divide (number 1 0)))))) ≡ Stops 10 1
  unfolding binary_of convert_of
  pointer_beside_or = refl

  pointer_negated : known_in (typed_value (around 3) start (before 1 p.Not (cast t 1 (parens 1 (pair 1 (number 1 1) divide (number 1 0)))))) ≡ known.Nothing
  unfolding binary_of convert_of
  pointer_negated = refl

  -- addresses

  element_address : known_in (typed_value (around 1) start (before 1 p.AddressOf (after 1 (name 1 6) (index (number 1 1))))) ≡ known.Address (half.Object 2) 4
  element_address = refl

  address_behind_void_pointer : known_in (typed_value (around 5) start (before 1 p.AddressOf (before 1 p.Dereference (cast t 1 (name 1 6))))) ≡ known.Address (half.Object 2) 0
  address_behind_void_pointer = refl

  fault_beside_address : seen_of (without_fault (around 1) start (pair 2 (name 2 6) add (pair 2 (number 2 1) divide (number 2 0)))) ≡ Stops 10 2
  unfolding binary_of convert_of
  fault_beside_address = refl

  fault_behind_address : seen_of (without_fault (around 1) start (pair 2 (name 2 6) sub (pair 2 (number 2 1) divide (number 2 0)))) ≡ Stops 10 2
  unfolding binary_of convert_of
  fault_behind_address = refl

  negative : known_of (before 1 p.Minus (number 1 5)) ≡ Some 18446744073709551611
  unfolding binary_of convert_of
  negative = refl

  constant_or_count : seen_constant (after 1 (name 1 4) (called_with_two (name 1 2) (name 1 2))) ≡ Stops 10 1
  constant_or_count = refl

  unknown_in_constant : seen_constant (pair 1 (pair 1 (number 1 1) divide (number 1 0)) add (name 2 99)) ≡ Stops 1 2
  unfolding binary_of convert_of
  unknown_in_constant = refl

  structure_as_condition : seen_of (condition (around 1) start (name 2 5)) ≡ Stops 24 2
  structure_as_condition = refl

  pointer_as_condition : seen_of (condition (around 1) start (name 1 2)) ≡ Is (ty.Pointer (part_of 1 0)) (then_do (leaf (op.Local 2)) (op.ToInteger i.Bool) [])
  pointer_as_condition = refl

  pointer_as_switch : seen_of (switch_value (around 1) start (name 2 2)) ≡ Stops 25 2
  pointer_as_switch = refl

  char_as_switch : seen_of (switch_value (around 1) start (name 1 14)) ≡ Is int (then_do (leaf (op.Local 8)) (op.Convert i.I32) [])
  char_as_switch = refl

  pointer_as_result : seen_of (result (around 1) start 1 (name 2 2)) ≡ Stops 18 2
  pointer_as_result = refl

  -- a value in a function without a result breaks the rule of its statement
  result_without_type : seen_of (result (around 1) start 0 (number 2 1)) ≡ Is int (tree.Apply 2 (op.Number 1) [])
  result_without_type = refl

  asserted_zero : seen_of (assertion_constant (around 1) start (number 2 0)) ≡ Stops 32 2
  asserted_zero = refl

  asserted_one : seen_of (assertion_constant (around 1) start (number 2 1)) ≡ Is int (tree.Apply 2 (op.Number 1) [])
  asserted_one = refl

  -- ---- operands that aren't evaluated, and used names

  used_once : used_by (name 1 4) ≡ 1
  used_once = refl

  not_used_in_size : used_by (size_of 1 (after 1 (name 1 4) (called_with (name 1 2)))) ≡ 0
  not_used_in_size = refl

  function_and_argument_are_used : used_by (after 1 (name 1 4) (called_with (name 1 2))) ≡ 2
  function_and_argument_are_used = refl

  -- where f is one operation: what is called so isn't used, its argument and what is named are
  abbrev used_of_operation : Expr → ℕ
  used_of_operation x = used_in (typed_value (record (around 1) { intrinsic = (λ n. Some op.Free) }) start x)

  called_operation_is_not_used : used_of_operation (after 1 (name 1 4) (called_with (name 1 2))) ≡ 1
  called_operation_is_not_used = refl

  operation_that_is_named_is_used : used_of_operation (name 1 4) ≡ 1
  operation_that_is_named_is_used = refl

  -- where printf is not there
  printf_without_printer : seen_of (typed_value (record (around 1) { printer = None }) start (after 1 (name 2 90) (called_with (text 1 1)))) ≡ Stops 1 2
  printf_without_printer = refl

  address_is_taken : taken_by (before 1 p.AddressOf (parens 1 (name 1 1))) ≡ 1 ∷ []
  address_is_taken = refl

  -- ---- temporaries

  sum_of_three : temporaries_of (three 1 (name 1 0) add (name 1 0) add (name 1 0)) ≡ 2
  sum_of_three = refl

  nested_to_the_right : temporaries_of (pair 1 (name 1 0) add (parens 1 (pair 1 (name 1 0) add (name 1 0)))) ≡ 3
  nested_to_the_right = refl

  call_with_two_arguments : temporaries_of (after 1 (name 1 4) (called_with_two (name 1 2) (name 1 2))) ≡ 3
  call_with_two_arguments = refl

  -- an expression in a type name counts
  size_of_long_array : temporaries_of (size_of_type 1 (int_array (pair 1 (number 1 1) add (parens 1 (pair 1 (number 1 1) add (number 1 1)))))) ≡ 3
  size_of_long_array = refl
