-- A value that converts to an integer type is cast to it.
use Rattle.std.proofs.Common.{sym, ◌∙◌}
use Rattle.c_types.specs.declared.ctype.CType.TheVariants.{Integer}
use Rattle.c_expr_rules.specs.IntegerTypes.{integer_kind}
use Rattle.c_expr_rules.proofs.Truths.{converted_integer}
use Rattle.c_expr_rules.proofs.converting.convert_value.Goals as goal

pub returns-in-Integer : goal.returns-in-Integer
returns-in-Integer c =
    let refused = rw c.in-Integer.is at (sym c.is_refused.ensures ∙ c.if-is_refused.false) in
    rw (c.in-Integer.is, converted_integer (Integer c.in-Integer.kind) c.in-Integer.kind (integer_kind c.args.typed.ty) c.args.typed refused) c.cast_to_integer.ensures
