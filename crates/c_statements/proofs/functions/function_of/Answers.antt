-- It is made with what is counted of it.
use Rattle.std.proofs.Common.{sym, ap, ◌∙◌}
use Rattle.c_expr_rules.specs.Outcomes.{Fine}
use Rattle.c_expr_rules.specs.Views.{seen_state}
use Rattle.c_names.specs.Code.{here_at}
use Rattle.c_statements.proofs.Bodies.{counted_made}
use Rattle.c_statements.proofs.functions.function_of.Goals as goal

pub returns : goal.returns
returns g c =
    let here = here_at c.args.scene.now.facts.now (g.S.Surroundings.told c.args.scene.now.around.now) in
    let s = seen_state c.args.state.now in
    counted_made here c.args.function.now c.args.part c.args.prototype.now s c.in_ok-counts.counts c.args.body
    c.in_ok-counts.ensures.values c.in_ok-counts.ensures.parameters c.in_ok-counts.ensures.taken
    ∙ ap (Fine s) (sym c.made_with.ensures)
