-- The rule is looked at in what is found, and then it is converted.
use Rattle.std.proofs.Common.{ap, ◌∙◌}
use Rattle.c_expr_rules.specs.Outcomes as o
use Rattle.c_expr_rules.specs.TypedExpressions.{type_at}
use Rattle.c_expr_rules.specs.declared.typed.Typed.{Typed}
use Rattle.c_expr_rules.specs.Converting.{conversion, is_none, or_itself}
use Rattle.c_expr_rules.specs.Views.{seen_state}
use Rattle.c_expr_rules.proofs.OperandLists.{ok_then}
use Rattle.c_calls.proofs.calls.argument.Goals as goal

pub returns : goal.returns
returns c =
    let s = seen_state c.args.state.now in
    let test = λ (s : o.State) (x : Typed). is_none (conversion s (type_at s c.in-Some.number) x) in
    let convert = λ (s : o.State) (x : Typed). or_itself x (conversion s (type_at s c.in-Some.number) x) in
    let broken = c.also-found.ensures s test c.is_unconvertible-is_broken.ensures in
    rw c.in-Some.is (ok_then c.convert_found.result _ _ (λ v v-is. v-is ∙ ap (o.outcome_with convert) broken) c.convert_found.ensures)
