-- What the operand used is taken back.
use Rattle.std.proofs.Common.{sym, ap, ◌∙◌}
use Rattle.std.specs.Prelude.{not}
use Rattle.c_expr_rules.specs.Outcomes as o
use Rattle.c_expr_rules.specs.TypedExpressions.{is_complete}
use Rattle.c_expr_rules.specs.declared.typed.Typed.{Typed}
use Rattle.c_expr_rules.specs.Expressions.{size_value}
use Rattle.c_expr_rules.specs.Views.{seen_state}
use Rattle.c_check_expr.proofs.Outcomes.{next_goes}
use Rattle.c_check_expr.proofs.Growing.{taken_back}
use Rattle.c_check_expr.proofs.parts.Checker.measured.Goals as goal

pub returns-clause-found : goal.returns-clause-found
returns-clause-found g c =
    λ before mark grows.
    let s = seen_state c.args.state.now in
    let test = λ (s : o.State) (t : Typed). not (is_complete t.ty) in
    let after = seen_state c.take_back.new.self in
    let broken = c.also-found.ensures s test c.is_incomplete-is_broken.ensures in
    let back = taken_back before c.args.state.now c.take_back.new.self c.args.mark mark grows c.take_back.ensures.rest c.take_back.ensures.literals c.take_back.ensures.used c.take_back.ensures.taken in
    next_goes _ _ _ _ (sym broken ∙ c.in_ok-ty.ensures s)
    ∙ ap (λ (x : o.State). o.Fine x (size_value c.args.line c.in_ok-ty.field-0.ty)) (sym back)
    ∙ ap (o.Fine after) (sym c.size_value.ensures)
