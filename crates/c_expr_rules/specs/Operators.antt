-- Operators on values (C11 6.5.3 to 6.5.17): which operands they take (rule 17), of which type the result is, its tree, and what
-- is known of it. Qualifiers of what is pointed to don't matter here.
use Rattle.std.specs.Prelude.{ℕ, ◌==◌, ◌&&◌, ◌||◌, ◌/◌, Bool, true, false, not, bit_or, List, [], ◌∷◌, if◌then◌else◌, Option, Some, None, Result, Ok, Err}
use Rattle.filc_num.specs.declared.integer.IntType.{IntType}
use Rattle.filc_num.specs.declared.integer.BinOp.{BinOp}
use Rattle.filc_num.specs.declared.integer.BinOp.TheVariants as b
use Rattle.filc_num.specs.declared.c_int_type.CIntType.{CIntType}
use Rattle.filc_num.specs.declared.c_int_type.CIntType.TheVariants as kind
use Rattle.filc_num.specs.CIntTypes.{int_type_of}
use Rattle.filc_num.specs.Integers.{is_comparison}
use Rattle.c_types.specs.declared.ctype.CType.{CType}
use Rattle.c_types.specs.declared.ctype.CType.TheVariants.{Void, Integer, Pointer}
use Rattle.c_types.specs.declared.ctype.Part.{Part}
use Rattle.c_types.specs.declared.ctype.TypeFault.{TypeFault}
use Rattle.c_types.specs.Sizes.{Room, room_of}
use Rattle.c_tree.specs.declared.expr.Expr.TheVariants as tree
use Rattle.c_tree.specs.declared.operation.Operation.{Operation}
use Rattle.c_tree.specs.declared.operation.Operation.TheVariants as op
use Rattle.c_tree.specs.declared.operation.Change.{Change}
use Rattle.c_tree.specs.declared.operation.Change.TheVariants as change
use Rattle.c_expr_rules.specs.declared.known.Known.{Known}
use Rattle.c_expr_rules.specs.declared.known.Known.TheVariants as known
use Rattle.c_expr_rules.specs.IntegerTypes.{integer_kind, promotion, common_kind}
use Rattle.c_expr_rules.specs.Constants.{known_as, known_binary, known_forward, known_back, known_choice}
use Rattle.c_expr_rules.specs.Outcomes.{State, Contents, Checked, Rule, by_rules, ◌breaks◌}
use Rattle.c_expr_rules.specs.TypedExpressions.{Typed, Place, InLocal, Made, tree_of, made_of, leaf, with_operation, value, kind_value, type_at, is_integer, is_pointer, is_scalar, is_void, is_array, is_record, record_number, same_record, is_some_number, or_zero, element_size, pointed_part, part_of, is_const, is_atomic, access_of, unit_of}
use Rattle.c_expr_rules.specs.Reading.{is_lvalue, is_register}
use Rattle.c_expr_rules.specs.Converting.{integer_as, is_null_constant, point_alike, as_pointer, conversion, is_none, or_itself}

-- ---- which operands an operator takes

pub data Family : Type 0 where
  Integers : Family
  Sum : Family
  Difference : Family
  Relation : Family
  Equality : Family

abbrev pub family_of : BinOp → Family
family_of b.Add = Sum
family_of b.Sub = Difference
family_of b.Mul = Integers
family_of b.Div = Integers
family_of b.Rem = Integers
family_of b.And = Integers
family_of b.Or = Integers
family_of b.Xor = Integers
family_of b.Shl = Integers
family_of b.Shr = Integers
family_of b.Lt = Relation
family_of b.Le = Relation
family_of b.Gt = Relation
family_of b.Ge = Relation
family_of b.Eq = Equality
family_of b.Ne = Equality

abbrev pub are_integers : Typed → Typed → Bool
are_integers x y = is_integer x.ty && is_integer y.ty

-- a pointer to a complete type
abbrev pub points_to_complete : State → Typed → Bool
points_to_complete s x = is_some_number (element_size s x.ty)

abbrev pub same_parts : Option Part → Option Part → Bool
same_parts (Some p) (Some q) = p.number == q.number
same_parts _ _ = false

-- two pointers to one type
abbrev pub point_to_one : Typed → Typed → Bool
point_to_one x y = same_parts (pointed_part x.ty) (pointed_part y.ty)

abbrev pub parts_alike : State → Option Part → Option Part → Bool
parts_alike s (Some p) (Some q) = point_alike s p q
parts_alike s _ _ = false

-- what equality takes of pointers: those to one type, and beside any a null constant or a pointer to void
abbrev pub are_comparable : State → Typed → Typed → Bool
are_comparable s x y =
    parts_alike s (pointed_part x.ty) (pointed_part y.ty) || ((is_pointer x.ty && is_null_constant y) || (is_null_constant x && is_pointer y.ty))

abbrev pub takes : Family → State → Typed → Typed → Bool
takes Integers s x y = are_integers x y
takes Sum s x y = are_integers x y || ((points_to_complete s x && is_integer y.ty) || (is_integer x.ty && points_to_complete s y))
takes Difference s x y = are_integers x y || (points_to_complete s x && (is_integer y.ty || point_to_one x y))
takes Relation s x y = are_integers x y || point_to_one x y
takes Equality s x y = are_integers x y || are_comparable s x y

-- ---- what an operator gives

abbrev pub kind_or_int : Option CIntType → CIntType
kind_or_int None = kind.Int
kind_or_int (Some k) = k

abbrev pub kind_in : Typed → CIntType
kind_in x = kind_or_int (integer_kind x.ty)

abbrev pub is_shift : BinOp → Bool
is_shift b.Shl = true
is_shift b.Shr = true
is_shift _ = false

-- the kind in which an operator on integers is computed: that of both operands, and of a shift that of the left one
abbrev pub computed_in : BinOp → CIntType → CIntType → CIntType
computed_in operator x y = if is_shift operator then promotion x else common_kind x y

-- a comparison gives an int (6.5.8p6, 6.5.9p3)
abbrev pub kind_of_result : BinOp → CIntType → CIntType
kind_of_result operator k = if is_comparison operator then kind.Int else k

-- the count of a shift isn't converted
abbrev pub right_known : BinOp → IntType → Known → Known
right_known operator ty k = if is_shift operator then k else known_as ty k

abbrev pub on_integers_in : CIntType → ℕ → BinOp → Typed → Typed → Typed
on_integers_in k line operator x y =
    let ty = int_type_of k in kind_value (kind_of_result operator k) line (with_operation line (op.Binary operator ty) (tree_of y.made ∷ []) x.made) (known_binary operator ty (known_as ty x.known) (right_known operator ty y.known))

abbrev pub on_integers : ℕ → BinOp → Typed → Typed → Typed
on_integers line operator x y = on_integers_in (computed_in operator (kind_in x) (kind_in y)) line operator x y

-- pointer and integer, in either order. An element of a register array stays one
abbrev pub advance : State → ℕ → Typed → Typed → Typed
advance s line p n =
    let bytes = or_zero (element_size s p.ty) in record (value p.ty line (with_operation line (op.Advance bytes) (tree_of n.made ∷ []) p.made) (known_forward bytes p.known n.known)) { of_register = p.of_register }

abbrev pub advance_by : State → ℕ → Typed → Typed → Typed
advance_by s line n p =
    let bytes = or_zero (element_size s p.ty) in record (value p.ty line (with_operation line (op.AdvanceBy bytes) (tree_of p.made ∷ []) n.made) (known_forward bytes p.known n.known)) { of_register = p.of_register }

abbrev pub retreat : State → ℕ → Typed → Typed → Typed
retreat s line p n =
    let bytes = or_zero (element_size s p.ty) in record (value p.ty line (with_operation line (op.Retreat bytes) (tree_of n.made ∷ []) p.made) (known_back bytes p.known n.known)) { of_register = p.of_register }

-- a difference of pointers is a long
abbrev pub distance : State → ℕ → Typed → Typed → Typed
distance s line p q = kind_value kind.Long line (with_operation line (op.Distance (or_zero (element_size s p.ty))) (tree_of q.made ∷ []) p.made) known.Nothing

-- the type of a pointer, or of what stands beside it
abbrev pub pointer_type : Typed → Typed → CType
pointer_type x y = if is_pointer x.ty then x.ty else y.ty

abbrev pub comparison : ℕ → BinOp → Typed → Typed → Typed
comparison line operator x y =
    let ty = pointer_type x y in kind_value kind.Int line (with_operation line (op.Compare operator) (tree_of (as_pointer ty y).made ∷ []) (as_pointer ty x).made) known.Nothing

abbrev pub sum : State → ℕ → Typed → Typed → Typed
sum s line x y = if is_pointer x.ty then advance s line x y else advance_by s line x y

abbrev pub difference : State → ℕ → Typed → Typed → Typed
difference s line x y = if is_pointer y.ty then distance s line x y else retreat s line x y

abbrev pub on_pointers : Family → State → ℕ → BinOp → Typed → Typed → Typed
on_pointers Integers s line operator x y = x
on_pointers Sum s line operator x y = sum s line x y
on_pointers Difference s line operator x y = difference s line x y
on_pointers Relation s line operator x y = comparison line operator x y
on_pointers Equality s line operator x y = comparison line operator x y

abbrev pub result_of : State → ℕ → BinOp → Typed → Typed → Typed
result_of s line operator x y = if are_integers x y then on_integers line operator x y else on_pointers (family_of operator) s line operator x y

-- an operator between two values: rule 17
abbrev pub binary : ℕ → BinOp → Typed → State → Typed → Checked Typed
binary line operator x s y = by_rules line (17 breaks not (takes (family_of operator) s x y) ∷ []) s (result_of s line operator x y)

-- ---- operators before an operand

abbrev pub with_promoted : ℕ → Typed → (IntType → Operation) → (IntType → Known) → Typed
with_promoted line x operation k =
    let ty = promotion (kind_in x) in kind_value ty line (with_operation line (operation (int_type_of ty)) [] x.made) (k (int_type_of ty))

abbrev pub negative : ℕ → Typed → Typed
negative line x = with_promoted line x op.Negate (λ ty. known_binary b.Sub ty (known_as ty (known.Integer 0)) (known_as ty x.known))

abbrev pub complement : ℕ → Typed → Typed
complement line x = with_promoted line x op.Complement (λ ty. known_binary b.Xor ty (known_as ty x.known) (known_as ty (known.Integer 18446744073709551615)))

-- `+` gives the promoted value
abbrev pub plus : ℕ → Typed → Typed
plus line x = let ty = promotion (kind_in x) in record (integer_as (Integer ty) ty (kind_in x) x) { line = line }

-- what is known of a value where only matters whether it is 0: of a pointer nothing, since no operand of an integer constant is one
abbrev pub known_test : Typed → Known
known_test x = if is_pointer x.ty then known.Nothing else x.known

-- of a pointer, whether it isn't null
abbrev pub test_tree : Typed → Made
test_tree x = if is_pointer x.ty then with_operation x.line (op.ToInteger Rattle.filc_num.specs.declared.integer.IntType.TheVariants.Bool) [] x.made else x.made

abbrev pub not_type : Typed → IntType
not_type x = int_type_of (promotion (kind_in x))

-- `!` gives an int
abbrev pub negation : ℕ → Typed → Typed
negation line x =
    kind_value kind.Int line (with_operation line (op.Not (not_type x)) [] (test_tree x)) (known_binary b.Eq (not_type x) (known_as (not_type x) (known_test x)) (known_as (not_type x) (known.Integer 0)))

-- ---- `?:` (6.5.15): rules 17 and 24

abbrev pub are_choices : State → Typed → Typed → Bool
are_choices s x y =
    are_integers x y || (same_record x.ty y.ty || ((is_void x.ty && is_void y.ty) || are_comparable s x y))

abbrev pub null_type : Typed → Typed → CType
null_type x y = if is_pointer y.ty then y.ty else x.ty

-- the type of two pointers: of void where one is that, with the qualifiers of both
abbrev pub part_of_both : State → Part → Part → Part
part_of_both s p q = part_of (if is_void (type_at s q.number) then q.number else p.number) (bit_or p.qualifiers.0 q.qualifiers.0)

abbrev pub type_of_parts : State → Option Part → Option Part → CType
type_of_parts s (Some p) (Some q) = Pointer (part_of_both s p q)
type_of_parts s (Some p) None = Pointer p
type_of_parts s None (Some q) = Pointer q
type_of_parts s None None = Void

-- a null constant has no say (6.5.15p6)
abbrev pub chosen_pointer : State → Typed → Typed → CType
chosen_pointer s x y =
    if is_null_constant x && is_pointer y.ty then y.ty else (if is_null_constant y && is_pointer x.ty then x.ty else type_of_parts s (pointed_part x.ty) (pointed_part y.ty))

abbrev pub chosen_type : State → Typed → Typed → CType
chosen_type s x y =
    if are_integers x y then Integer (common_kind (kind_in x) (kind_in y)) else (if is_record x.ty then x.ty else (if is_void x.ty && is_void y.ty then Void else chosen_pointer s x y))

-- an operand as a value of the chosen type. What either points to is a part of a register object where it was one
abbrev pub chosen_as : CType → Typed → Typed
chosen_as (Integer k) x = integer_as (Integer k) k (kind_in x) x
chosen_as (Pointer to) x = as_pointer (Pointer to) x
chosen_as ty x = x

abbrev pub choice_of : CType → ℕ → Typed → Typed → Typed → Typed
choice_of ty line test x y =
    let one = chosen_as ty x in
    let other = chosen_as ty y in
    record (value ty line (made_of line (tree.Choose line (tree_of (test_tree test)) (tree_of one.made) (tree_of other.made))) (known_choice (known_test test) one.known other.known)) { of_register = one.of_register || other.of_register }

abbrev pub choice : ℕ → Typed → Typed → State → Typed → Checked Typed
choice line test x s y =
    by_rules line (17 breaks not (are_choices s x y) ∷ 24 breaks not (is_scalar test.ty) ∷ []) s (choice_of (chosen_type s x y) line test x y)

-- ---- assignment (6.5.16)

abbrev pub has_const : Option Contents → Bool
has_const None = false
has_const (Some c) = c.has_const

abbrev pub contents_of : State → Option ℕ → Option Contents
contents_of s None = None
contents_of s (Some number) = s.contents number

-- const, an array, or a structure with a const member isn't modifiable (6.3.2.1p1)
abbrev pub is_modifiable : State → Typed → Bool
is_modifiable s t = not (is_const t.quals.0 || (is_array t.ty || has_const (contents_of s (record_number t.ty))))

abbrev pub room_align : Result Room TypeFault → ℕ
room_align (Ok r) = r.align
room_align (Err fault) = 1

abbrev pub room_size : Result Room TypeFault → ℕ
room_size (Ok r) = r.size
room_size (Err fault) = 0

-- so many units of a structure from the second address to the first
abbrev pub copy_of : CType → Operation
copy_of ty = op.Copy (unit_of (room_align (room_of ty))) (room_size (room_of ty) / room_align (room_of ty))

abbrev pub store : ℕ → Typed → Made → Place → Made
store line t v (InLocal local number r) = with_operation line (op.SetLocal local) [] v
store line t v place =
    with_operation line (if is_record t.ty then copy_of t.ty else op.Store (access_of t.ty t.quals.0)) (tree_of v ∷ []) t.made

-- the value is the one that is stored (6.5.16p3); of a structure it is the left side's object
abbrev pub assigned_value : ℕ → Typed → Typed → Typed
assigned_value line t v = record (value t.ty line (store line t v.made t.place) known.Nothing) { of_register = is_record t.ty && is_register t.place }

-- `=`: rules 12, 13 and 18
abbrev pub assignment : ℕ → Typed → State → Typed → Checked Typed
assignment line t s v =
    by_rules line (12 breaks not (is_lvalue t.place) ∷ 13 breaks not (is_modifiable s t) ∷ 18 breaks is_none (conversion s t.ty v) ∷ []) s
    (assigned_value line t (or_itself v (conversion s t.ty v)))

-- what a compound assignment takes: a pointer stays one, and an integer too (6.5.16.2p1). An atomic pointer takes none
abbrev pub moves_pointer : Family → State → Typed → Typed → Bool
moves_pointer Sum s t v = points_to_complete s t && (is_integer v.ty && not (is_atomic t.quals.0))
moves_pointer Difference s t v = points_to_complete s t && (is_integer v.ty && not (is_atomic t.quals.0))
moves_pointer Integers s t v = false
moves_pointer Relation s t v = false
moves_pointer Equality s t v = false

abbrev pub takes_compound : BinOp → State → Typed → Typed → Bool
takes_compound operator s t v = are_integers t v || moves_pointer (family_of operator) s t v

abbrev pub pointer_change : Family → ℕ → Change
pointer_change Difference bytes = change.Retreat bytes
pointer_change _ bytes = change.Advance bytes

abbrev pub computed_for : BinOp → Typed → Typed → IntType
computed_for operator t v = int_type_of (computed_in operator (kind_in t) (kind_in v))

abbrev pub change_of : BinOp → State → Typed → Typed → Change
change_of operator s t v =
    if is_integer t.ty then change.Integer operator (computed_for operator t v) (int_type_of (kind_in t)) else pointer_change (family_of operator) (or_zero (element_size s t.ty))

-- the new value of a place; that of an atomic integer is one event
abbrev pub update_tree : ℕ → BinOp → State → Typed → Typed → Place → Made
update_tree line operator s t v (InLocal local number r) = with_operation line (op.UpdateLocal local (change_of operator s t v)) [] v.made
update_tree line operator s t v place =
    with_operation line (if is_atomic t.quals.0 then op.Combine (int_type_of (kind_in t)) operator (computed_for operator t v) else op.Update (access_of t.ty t.quals.0) (change_of operator s t v))
    (tree_of v.made ∷ []) t.made

-- its old value
abbrev pub step_tree : ℕ → BinOp → State → Typed → Typed → Place → Made
step_tree line operator s t v (InLocal local number r) = with_operation line (op.StepLocal local (change_of operator s t v)) [] v.made
step_tree line operator s t v place =
    with_operation line (if is_atomic t.quals.0 then op.Fetch (int_type_of (kind_in t)) operator (computed_for operator t v) else op.Step (access_of t.ty t.quals.0) (change_of operator s t v))
    (tree_of v.made ∷ []) t.made

abbrev pub change_rules : BinOp → Typed → State → Typed → List Rule
change_rules operator t s v =
    12 breaks not (is_lvalue t.place) ∷ 13 breaks not (is_modifiable s t) ∷ 17 breaks not (takes_compound operator s t v) ∷ []

-- a compound assignment: rules 12, 13 and 17
abbrev pub compound : ℕ → BinOp → Typed → State → Typed → Checked Typed
compound line operator t s v = by_rules line (change_rules operator t s v) s (value t.ty line (update_tree line operator s t v t.place) known.Nothing)

-- the 1 of `++` and `--`
abbrev pub one_at : ℕ → Typed
one_at line = kind_value kind.Int line (leaf line (op.Number 1)) (known.Integer 1)

-- `++` and `--` behind an operand: rules 12, 13 and 17
abbrev pub step : ℕ → BinOp → State → Typed → Checked Typed
step line operator s t = by_rules line (change_rules operator t s (one_at line)) s (value t.ty line (step_tree line operator s t (one_at line) t.place) known.Nothing)
