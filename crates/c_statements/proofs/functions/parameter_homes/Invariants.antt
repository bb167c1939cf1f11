-- The homes so far and those of the rest of the parameters are those of all.
use Rattle.std.proofs.Common.{◌≡◌, ◌++◌, drop}
use Rattle.c_expr_rules.specs.Views.{seen_state}
use Rattle.c_names.specs.Code.{here_at}
use Rattle.c_file_rules.specs.Functions.{parameter_homes}
use Rattle.c_statements.proofs.functions.parameter_homes.Given as goal

abbrev pub invariant-parameters : goal.invariant-parameters
invariant-parameters g l =
    let here = here_at l.scene.facts.now (g.S.Surroundings.told l.scene.around.now) in
    (l.homes.items ++ parameter_homes here (seen_state l.state) l.number (drop l.listed-index l.parameters)
    ≡ parameter_homes here (seen_state l.state) 0 l.parameters)
    × (l.number ≡ l.listed-index)
