-- The statements so far and those of the rest of the declarators are those of all.
use Rattle.std.proofs.Common.{◌≡◌, drop}
use Rattle.c_expr_rules.specs.Views.{seen_state, Grows}
use Rattle.c_names.specs.Code.{here_at}
use Rattle.c_file_rules.specs.Constructs.{in_order}
use Rattle.c_file_rules.specs.Declaring.{init_declared}
use Rattle.c_statements.proofs.Before.{statements_before}
use Rattle.c_statements.proofs.declarations.declaration_made.Given as goal

abbrev pub invariant-declarators : goal.invariant-declarators
invariant-declarators g l =
    let here = here_at l.scene.facts.now (g.S.Surroundings.told l.scene.around.now) in
    let look = init_declared here l.standing l.said in
    (statements_before l.statements (in_order look (seen_state l.state) (drop l.init-index l.declarators))
    ≡ in_order look (seen_state l.initial.state) l.declarators)
    × Grows l.fn.state l.state
