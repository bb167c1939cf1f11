-- What is to hold of typed expressions, in words that aren't the definition again.
--
-- A conversion stands where a value's kind changes, and nowhere else. `ConstantsAreComputed` says that the value that is known of a
-- constant before a run is the one that its tree computes: no clause names it yet.
use Rattle.std.specs.Prelude.{◌≡◌, ℕ, ◌==◌, Bool, true, false, IsTrue, List, [], ◌∷◌, if◌then◌else◌, Option, Some, None, Result, Ok, Err}
use Rattle.filc_num.specs.declared.integer.IntType.{IntType}
use Rattle.filc_num.specs.declared.integer.BinOp.{BinOp}
use Rattle.filc_num.specs.declared.integer.BinOp.TheVariants as b
use Rattle.filc_num.specs.declared.integer.ArithFault.{ArithFault}
use Rattle.filc_num.specs.declared.c_int_type.CIntType.{CIntType}
use Rattle.filc_num.specs.CIntTypes.{int_type_of}
use Rattle.filc_num.specs.Integers.{convert_of, binary_of, is_promoted, IsValue}
use Rattle.filc_num.specs.declared.integer.IntType.TheVariants.{I32}
use Rattle.c_syntax.specs.declared.expr.Expr.{Expr}
use Rattle.c_syntax.specs.declared.expr.TypeName.{TypeName}
use Rattle.c_types.specs.declared.ctype.CType.{CType}
use Rattle.c_types.specs.declared.ctype.Part.{Part}
use Rattle.c_tree.specs.declared.declared.Declared.TheVariants as declared
use Rattle.c_tree.specs.declared.expr.Expr.{Expr as Tree, Apply', Chain', Logic', Choose', Print', Row_of-Expr, end_of-Expr, more_of-Expr, Row_of-Link, end_of-Link, more_of-Link}
use Rattle.c_tree.specs.declared.operation.Operation.{Operation}
use Rattle.c_tree.specs.declared.operation.Operation.TheVariants as op
use Rattle.c_expr_rules.specs.declared.known.Known.TheVariants as known
use Rattle.c_expr_rules.specs.IntegerTypes.{integer_kind, common_kind}
use Rattle.c_expr_rules.specs.Outcomes.{State, Fine}
use Rattle.c_expr_rules.specs.TypedExpressions.{Typed, tree_of}
use Rattle.c_expr_rules.specs.Converting.{conversion, same_int}
use Rattle.c_expr_rules.specs.Operators.{is_shift}
use Rattle.c_expr_rules.specs.Expressions.{Around, typed_value}

-- ---- what a tree without names computes, by the definitions that a run goes by

abbrev pub in_result : Result ℕ ArithFault → Option ℕ
in_result (Ok v) = Some v
in_result (Err fault) = None

-- an operation on values; operands are converted to its type, but the count of a shift isn't
abbrev pub binary_value : BinOp → IntType → ℕ → ℕ → Option ℕ
binary_value o ty x y = in_result (binary_of o ty (convert_of x ty) (if is_shift o then y else convert_of y ty))

abbrev pub leaf_value : Operation → Option ℕ
leaf_value (op.Number v) = Some v
leaf_value _ = None

abbrev pub operation_value : Operation → Option ℕ → List (Option ℕ) → Option ℕ
operation_value (op.Convert ty) (Some v) [] = Some (convert_of v ty)
operation_value (op.Binary o ty) (Some x) (Some y ∷ []) = binary_value o ty x y
operation_value (op.Negate ty) (Some v) [] = binary_value b.Sub ty 0 v
operation_value (op.Complement ty) (Some v) [] = binary_value b.Xor ty v 18446744073709551615
operation_value (op.Not ty) (Some v) [] = binary_value b.Eq ty v 0
operation_value _ _ _ = None

abbrev pub chosen_value : Option ℕ → Option ℕ → Option ℕ → Option ℕ
chosen_value None x y = None
chosen_value (Some v) x y = if v == 0 then y else x

-- what the operands of `&&`, or of `||`, decide: the first that does, and those behind it aren't evaluated
abbrev pub logic_value : Bool → Option ℕ → Option ℕ → Option ℕ
logic_value all None rest = None
logic_value true (Some v) rest = if v == 0 then Some 0 else rest
logic_value false (Some v) rest = if v == 0 then rest else Some 1

abbrev mutual
  pub tree_value : Tree → Option ℕ
  tree_value (Apply' line operation z operands) = leaf_value operation
  tree_value (Chain' line p (more_of-Expr first end_of-Expr) z links) = links_value (tree_value first) links
  tree_value (Logic' line all z operands) = tests_value all operands
  tree_value (Choose' line p (more_of-Expr test end_of-Expr) q (more_of-Expr one end_of-Expr) r (more_of-Expr other end_of-Expr)) =
      chosen_value (tree_value test) (tree_value one) (tree_value other)
  tree_value (Print' line z operands pieces) = None

  pub links_value : {m : _} → Option ℕ → Row_of-Link m → Option ℕ
  links_value v end_of-Link = v
  links_value v (more_of-Link operation z operands links) = links_value (operation_value operation v (operand_values operands)) links

  pub operand_values : {m : _} → Row_of-Expr m → List (Option ℕ)
  operand_values end_of-Expr = []
  operand_values (more_of-Expr e rest) = tree_value e ∷ operand_values rest

  pub tests_value : {m : _} → Bool → Row_of-Expr m → Option ℕ
  tests_value true end_of-Expr = Some 1
  tests_value false end_of-Expr = Some 0
  tests_value all (more_of-Expr e rest) = logic_value all (tree_value e) (tests_value all rest)

-- constants of enumerations are kept as an int is
abbrev pub HasIntConstants : State → Type 0
HasIntConstants s = (name : List ℕ) (v : ℕ) → s.visible name ≡ Some (declared.Constant v) → IsValue I32 v

-- numbers, characters and constants of enumerations are kept as values of their types are
pub record HasConstants (around : Around) : Type 0 where
  pub numbers : (n : ℕ) → IsValue (int_type_of (around.number n).0) (around.number n).1
  pub characters : (n : ℕ) → IsValue I32 (around.character n)
  pub declared : (s after : State) (ty : TypeName) (part : Part) → HasIntConstants s → around.named_type s ty ≡ Fine after part → HasIntConstants after

-- what is known of an integer before a run is what its tree computes
abbrev pub ConstantsAreComputed : Type 0
ConstantsAreComputed =
    (around : Around) (s after : State) (e : Expr) (t : Typed) (v : ℕ) → HasConstants around → HasIntConstants s → typed_value around s e ≡ Fine after t →
    t.known ≡ known.Integer v → tree_value (tree_of t.made) ≡ Some v

-- ---- conversions

-- what kind of value a type has: an integer of a kind, or none
abbrev pub SameKind : Option CIntType → Option CIntType → Type 0
SameKind (Some x) (Some y) = IsTrue (same_int (int_type_of x) (int_type_of y))
SameKind None None = Unit {0}
SameKind _ _ = ⊥

-- where the kind of value stays, the tree does
abbrev pub ConversionsChangeTypes : Type 0
ConversionsChangeTypes =
    (s : State) (to : CType) (t u : Typed) → conversion s to t ≡ Some u → SameKind (integer_kind to) (integer_kind t.ty) → u.made ≡ t.made

-- what is converted has the type that it is converted to, and is no place
abbrev pub ConversionsGiveTypes : Type 0
ConversionsGiveTypes =
    (s : State) (kind : CIntType) (t u : Typed) → conversion s (Rattle.c_types.specs.declared.ctype.CType.TheVariants.Integer kind) t ≡ Some u →
    u.ty ≡ Rattle.c_types.specs.declared.ctype.CType.TheVariants.Integer kind

-- ---- operands of integer types (6.3.1.8)

-- the type of two operands doesn't hang on their order, and is one in which operations are computed
abbrev pub OperandsHaveOneType : Type 0
OperandsHaveOneType = (x y : CIntType) → (common_kind x y ≡ common_kind y x) × IsTrue (is_promoted (int_type_of (common_kind x y)))
