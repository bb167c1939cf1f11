-- What stands round an expression and asks something of it. The expression itself is the construct that breaks the rule, so of
-- the rules that it breaks by itself and this one the lower decides.
use Rattle.std.specs.Prelude.{ℕ, ◌&&◌, Bool, true, false, not, int_le, Option, Some, None}
use Rattle.filc_num.specs.declared.integer.IntType.TheVariants.{I32}
use Rattle.filc_num.specs.declared.c_int_type.CIntType.{CIntType}
use Rattle.filc_num.specs.CIntTypes.{int_type_of}
use Rattle.filc_num.specs.Integers.{value_of, least_of, greatest_of}
use Rattle.c_syntax.specs.declared.expr.Expr.{Expr}
use Rattle.c_types.specs.declared.ctype.CType.{CType}
use Rattle.c_types.specs.declared.ctype.CType.TheVariants.{Integer}
use Rattle.c_expr_rules.specs.declared.known.Known.{Known}
use Rattle.c_expr_rules.specs.declared.known.Known.TheVariants as known
use Rattle.c_expr_rules.specs.IntegerTypes.{promotion}
use Rattle.c_expr_rules.specs.Constants.{known_as}
use Rattle.c_expr_rules.specs.Outcomes.{State, Checked, also, also_if_broken, outcome_with}
use Rattle.c_expr_rules.specs.TypedExpressions.{Typed, is_integer, is_scalar, is_void, type_at}
use Rattle.c_expr_rules.specs.Converting.{integer_as, conversion, is_none, or_itself}
use Rattle.c_expr_rules.specs.Operators.{kind_in, test_tree}
use Rattle.c_expr_rules.specs.Expressions.{Around, typed_value}

-- ---- conditions of statements (6.8.4.1, 6.8.5): rule 24. A pointer is looked at first

abbrev pub as_test : State → Typed → Typed
as_test s t = record t { made = test_tree t }

abbrev pub condition : Around → State → Expr → Checked Typed
condition around s e =
    outcome_with as_test (also e.span.line 24 (λ s t. not (is_scalar t.ty)) (typed_value around s e))

-- ---- the value of a switch (6.8.4.2): rule 25; it is promoted

abbrev pub promoted_value : Typed → Typed
promoted_value t = integer_as (Integer (promotion (kind_in t))) (promotion (kind_in t)) (kind_in t) t

abbrev pub switch_value : Around → State → Expr → Checked Typed
switch_value around s e = outcome_with (λ s t. promoted_value t) (also e.span.line 25 (λ s t. not (is_integer t.ty)) (typed_value around s e))

-- ---- the value of a return statement (6.8.6.4), by the number of the result's type: rule 18. In a function without a result it is the
-- statement that breaks a rule, after the expression, which may be of any type

abbrev pub is_bad_result : State → CType → Typed → Bool
is_bad_result s ty t = not (is_void ty) && is_none (conversion s ty t)

abbrev pub result : Around → State → (ty : ℕ) → Expr → Checked Typed
result around s ty e =
    outcome_with (λ s t. or_itself t (conversion s (type_at s ty) t)) (also e.span.line 18 (λ s t. is_bad_result s (type_at s ty) t) (typed_value around s e))

-- ---- integer constants (6.6p6): rule 10

abbrev pub constant_in : Known → Option ℕ
constant_in (known.Integer v) = Some v
constant_in known.Nothing = None
constant_in known.Fault = None
constant_in (known.Address half offset) = None

abbrev pub is_some : Option ℕ → Bool
is_some None = false
is_some (Some v) = true

abbrev pub is_integer_constant : Typed → Bool
is_integer_constant t = is_integer t.ty && is_some (constant_in t.known)

-- what breaks another rule is no integer constant either
abbrev pub integer_constant : Around → State → Expr → Checked Typed
integer_constant around s e = also_if_broken e.span.line 10 (λ s t. not (is_integer_constant t)) (typed_value around s e)

-- an int holds the value of an enumeration constant (6.7.2.2p2)
abbrev pub fits_int : Typed → Option ℕ → Bool
fits_int t None = false
fits_int t (Some v) =
    let z = value_of (int_type_of (kind_in t)) v in int_le (least_of I32) z && int_le z (greatest_of I32)

abbrev pub enumeration_constant : Around → State → Expr → Checked Typed
enumeration_constant around s e =
    also_if_broken e.span.line 10 (λ s t. not (is_integer_constant t && fits_int t (constant_in t.known))) (typed_value around s e)

-- a static assertion's constant is not 0 (6.7.10p3): rules 10 and 32
abbrev pub is_zero_constant : Option ℕ → Bool
is_zero_constant None = false
is_zero_constant (Some v) = Rattle.std.specs.Prelude.nat_eq v 0

abbrev pub assertion_constant : Around → State → Expr → Checked Typed
assertion_constant around s e = also e.span.line 32 (λ s t. is_zero_constant (constant_in t.known)) (integer_constant around s e)

-- a case's constant, as a value of the switch's promoted kind (6.8.4.2p5)
abbrev pub as_case : CIntType → State → Typed → Typed
as_case k s t = record t { ty = Integer k; known = known_as (int_type_of k) t.known }

abbrev pub case_constant : Around → State → CIntType → Expr → Checked Typed
case_constant around s k e = outcome_with (as_case k) (integer_constant around s e)

-- what is an integer constant in form has no fault, where a constant is wanted; whether it is one is another construct's rule: an
-- array's size, and an initialiser of a static object
abbrev pub is_fault : Known → Bool
is_fault known.Fault = true
is_fault (known.Integer v) = false
is_fault known.Nothing = false
is_fault (known.Address half offset) = false

abbrev pub without_fault : Around → State → Expr → Checked Typed
without_fault around s e = also e.span.line 10 (λ s t. is_fault t.known) (typed_value around s e)
