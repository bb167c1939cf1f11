-- A call with its tree gives what the definition gives.
use Rattle.std.proofs.Common.{sym, ap, ◌∙◌}
use Rattle.c_types.specs.declared.ctype.CType.{CType}
use Rattle.c_expr_rules.specs.declared.known.Known.TheVariants as known
use Rattle.c_expr_rules.specs.TypedExpressions.{value}
use Rattle.c_expr_rules.specs.Views.{seen_state}
use Rattle.c_expr_rules.proofs.OperandLists.{call_gives}
use Rattle.c_calls.proofs.atomic_calls.atomic_value.Goals as goal

pub returns-in-Some-2 : goal.returns-in-Some-2
returns-in-Some-2 c =
    c.value.ensures
    ∙ ap (λ (ty : CType). value ty c.args.line c.in-Some-2.made known.Nothing) c.type_of_result.ensures
    ∙ call_gives (seen_state c.args.state.now) c.args.line c.args.what c.args.values c.take_first.new.values.items c.in-Some.object c.in-Some-atomic_part.to c.type_at-ty.result c.in-Some-2.made
    (sym c.in_ok-rest.ensures ∙ c.in-Some.ensures) (sym c.atomic_part.ensures ∙ c.in-Some-atomic_part.is) c.type_at-ty.ensures (sym c.in_ok-atomic_tree.ensures ∙ c.in-Some-2.is)
