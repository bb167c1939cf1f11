-- A body is its statements, and the function that they make.
use Rattle.std.proofs.Common.{◌<◌, ℕ, length, sym, ap, subst}
use Rattle.c_expr_rules.specs.Views.{seen_state}
use Rattle.c_check_expr.proofs.Recursion.{passes_failed}
use Rattle.c_names.specs.Code.{here_at}
use Rattle.c_statements.proofs.Blocked.{scope_inside}
use Rattle.c_statements.proofs.Bodies.{body_goes, body_stops}
use Rattle.c_statements.proofs.functions.body_made.Goals as goal

pub returns : goal.returns
returns g c =
    let here = here_at c.args.scene.now.facts.now (g.S.Surroundings.told c.args.scene.now.around.now) in
    let s = seen_state c.args.state.now in
    let f = c.args.function.now in
    let p = c.args.part in
    let prototype = c.args.prototype.now in
    let begun = seen_state c.begin_body.new.state in
    let t = seen_state c.block_items.new.state in
    body_goes here f p prototype s begun c.inside_function-inside.result c.as_slice.result.now c.in_ok-begin_body.ensures.state c.inside_function-inside.ensures c.as_slice.ensures t (seen_state c.take_block-body.new.state) (seen_state c.leave.new.state) c.in_ok-statements.statements c.take_block-body.result c.in_ok-made.made c.in_ok-statements.ensures.found c.take_block-body.ensures.state c.take_block-body.ensures.block c.in_ok-made.ensures c.leave.ensures.state

pub returns-in_err-statements : goal.returns-in_err-statements
returns-in_err-statements g c =
    let here = here_at c.args.scene.now.facts.now (g.S.Surroundings.told c.args.scene.now.around.now) in
    let s = seen_state c.args.state.now in
    let f = c.args.function.now in
    let p = c.args.part in
    let prototype = c.args.prototype.now in
    let begun = seen_state c.begin_body.new.state in
    let t = seen_state c.block_items.new.state in
    let fault = c.in_err-statements.field-0.0 in
    passes_failed t c.from_residual-in_err-statements.result fault _ c.from_residual-in_err-statements.ensures.1 (body_stops here f p prototype s begun c.inside_function-inside.result c.as_slice.result.now c.in_ok-begin_body.ensures.state c.inside_function-inside.ensures c.as_slice.ensures t fault c.in_err-statements.ensures.found)

pub leave-requires : goal.leave-requires
leave-requires g c =
    subst (λ (n : ℕ). 1 < n) (sym (ap (λ names. length names.ordinary) c.take_block-body.ensures.depth)) (scope_inside c.begin_body.new.state c.block_items.new.state c.in_ok-begin_body.ensures.inside c.in_ok-statements.ensures.grows)
