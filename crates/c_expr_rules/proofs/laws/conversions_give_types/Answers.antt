use Rattle.c_expr_rules.specs.IntegerTypes.{integer_kind}
use Rattle.c_expr_rules.proofs.Converted.{has-type}
use Rattle.c_expr_rules.proofs.laws.conversions_give_types.Goals as goal

pub returns : goal.returns
returns c = λ s kind t u h. has-type kind (integer_kind t.ty) t u h
