-- What a conversion to an integer type gives has that type.
use Rattle.std.proofs.Common.{◌≡◌, arith}
use Rattle.std.specs.Prelude.{Option, Some, None}
use Rattle.filc_num.specs.declared.c_int_type.CIntType.{CIntType}
use Rattle.c_types.specs.declared.ctype.CType.TheVariants.{Integer}
use Rattle.c_expr_rules.specs.TypedExpressions.{Typed}
use Rattle.c_expr_rules.specs.Converting.{to_integer}

pub has-type : (kind : CIntType) (from : Option CIntType) (t u : Typed) → to_integer (Integer kind) kind from t ≡ Some u → u.ty ≡ Integer kind
has-type kind (Some from) t u h = grind (arith, h)
has-type kind None t u h = grind (arith, h)
