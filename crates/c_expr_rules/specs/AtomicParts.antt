-- Parts of an atomic call, which `Calls.atomic_on` has together: by them the code is cut into small functions.
use Rattle.std.specs.Prelude.{ℕ, ◌&&◌, Bool, false, List, [], ◌∷◌, length, Option, Some, None}
use Rattle.filc_num.specs.declared.integer.BinOp.{BinOp}
use Rattle.filc_num.specs.declared.c_int_type.CIntType.TheVariants as kind
use Rattle.filc_num.specs.CIntTypes.{int_type_of}
use Rattle.c_types.specs.declared.ctype.CType.{CType}
use Rattle.c_types.specs.declared.ctype.CType.TheVariants.{Void, Integer}
use Rattle.c_tree.specs.declared.operation.Operation.{Operation}
use Rattle.c_tree.specs.declared.operation.Operation.TheVariants as op
use Rattle.c_expr_rules.specs.IntegerTypes.{integer_kind, promotion}
use Rattle.c_expr_rules.specs.Outcomes.{State}
use Rattle.c_expr_rules.specs.TypedExpressions.{Typed, Made, tree_of, with_operation, pointed_part, access_of}
use Rattle.c_expr_rules.specs.Operators.{kind_or_int}
use Rattle.c_expr_rules.specs.Calls.{AtomicCall, AtomicLoad, AtomicStore, AtomicExchange, AtomicCompareExchange, AtomicFetch, may_follow, are_orders, is_none_or_two, points_to_plain, is_desired, desired_tree, waits_for}

-- ---- which operands stand behind the object

abbrev pub may_replace : State → CType → List Typed → Bool
may_replace s ty [] = false
may_replace s ty (v ∷ rest) = is_desired s ty v && may_follow rest

abbrev pub may_compare : State → (number : ℕ) → CType → List Typed → Bool
may_compare s number ty (e ∷ v ∷ rest) = points_to_plain number (pointed_part e.ty) && (is_desired s ty v && (is_none_or_two (length rest) && are_orders rest))
may_compare s number ty _ = false

-- ---- what is done

abbrev pub fetch_of : CType → BinOp → Operation
fetch_of ty operator = op.Fetch (int_type_of (kind_or_int (integer_kind ty))) operator (int_type_of (promotion (kind_or_int (integer_kind ty))))

abbrev pub replacing : AtomicCall → CType → Operation
replacing AtomicLoad ty = op.Load (access_of ty 8)
replacing AtomicStore ty = op.Store (access_of ty 8)
replacing AtomicExchange ty = op.Swap (access_of ty 8)
replacing AtomicCompareExchange ty = op.Cas (access_of ty 8)
replacing (AtomicFetch operator) ty = fetch_of ty operator

abbrev pub type_of_result : AtomicCall → CType → CType
type_of_result AtomicLoad ty = ty
type_of_result AtomicStore ty = Void
type_of_result AtomicExchange ty = ty
type_of_result AtomicCompareExchange ty = Integer kind.Bool
type_of_result (AtomicFetch operator) ty = ty

-- ---- its tree

abbrev pub replace_tree : State → ℕ → Operation → CType → Made → List Typed → Option Made
replace_tree s line o ty object [] = None
replace_tree s line o ty object (v ∷ rest) = Some (with_operation line o (tree_of (desired_tree s ty v rest) ∷ []) object)

abbrev pub compare_tree : State → ℕ → Operation → CType → Made → List Typed → Option Made
compare_tree s line o ty object (e ∷ v ∷ rest) = Some (with_operation line o (tree_of e.made ∷ tree_of (desired_tree s ty v rest) ∷ []) object)
compare_tree s line o ty object _ = None

abbrev pub atomic_tree : State → ℕ → AtomicCall → CType → Made → List Typed → Option Made
atomic_tree s line AtomicLoad ty object rest = Some (with_operation line (replacing AtomicLoad ty) [] (waits_for rest object))
atomic_tree s line AtomicStore ty object rest = replace_tree s line (replacing AtomicStore ty) ty object rest
atomic_tree s line AtomicExchange ty object rest = replace_tree s line (replacing AtomicExchange ty) ty object rest
atomic_tree s line AtomicCompareExchange ty object rest = compare_tree s line (replacing AtomicCompareExchange ty) ty object rest
atomic_tree s line (AtomicFetch operator) ty object rest = replace_tree s line (replacing (AtomicFetch operator) ty) ty object rest
