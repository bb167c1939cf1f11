-- The parameters are the first locals, in the scope of the function's parameters.
use Rattle.std.proofs.Common.{List, length, reverse, ap, ◌∙◌}
use Rattle.c_expr_rules.specs.Views.{seen_state}
use Rattle.c_names.specs.Code.{here_at}
use Rattle.c_file_rules.specs.Functions.{parameter_homes}
use Rattle.c_file_rules.specs.declared.parts.Listed.{Listed}
use Rattle.c_statements.proofs.Bodies.{at_body_is}
use Rattle.c_statements.proofs.functions.begin_body.Goals as goal

pub returns-clause-state : goal.returns-clause-state
returns-clause-state g c =
    let here = here_at c.args.scene.now.facts.now (g.S.Surroundings.told c.args.scene.now.around.now) in
    let t = seen_state c.enter_body.new.state in
    let listed = c.listed_in-parameters.ensures in
    at_body_is here c.args.prototype.now (seen_state c.args.state.now) t (reverse c.new.result.items) c.in_ok-count.count c.in_ok-state.field-0.items
    c.in_ok-enter_body.ensures.state (ap reverse c.new.ensures.items)
    (c.in_ok-count.ensures ∙ ap (λ (l : List Listed). length l) listed)
    (c.in_ok-state.ensures ∙ ap (λ (l : List Listed). parameter_homes here t 0 l) listed)
