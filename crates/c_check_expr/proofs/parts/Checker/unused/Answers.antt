-- What the name used is taken back.
use Rattle.std.proofs.Common.{sym, ap, ◌∙◌}
use Rattle.c_expr_rules.specs.Outcomes as o
use Rattle.c_expr_rules.specs.Views.{seen_state}
use Rattle.c_check_expr.proofs.Outcomes.{next_goes}
use Rattle.c_check_expr.proofs.Growing.{taken_back}
use Rattle.c_check_expr.proofs.parts.Checker.unused.Goals as goal

pub returns-clause-found : goal.returns-clause-found
returns-clause-found g c =
    λ before mark grows.
    let s = seen_state c.args.state.now in
    let back = taken_back before c.args.state.now c.take_back.new.self c.args.start mark grows c.take_back.ensures.rest c.take_back.ensures.literals c.take_back.ensures.used c.take_back.ensures.taken in
    next_goes _ _ _ _ (c.in_ok-typed.ensures s)
    ∙ ap (λ (x : o.State). o.Fine x c.in_ok-typed.typed) (sym back)
