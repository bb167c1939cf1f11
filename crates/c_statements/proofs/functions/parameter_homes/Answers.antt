-- The homes so far and those of the rest are those of all.
use Rattle.std.proofs.Common.{List, ◌++◌, refl, sym, ap, ◌∙◌, arith}
use Rattle.c_tree.specs.declared.stmt.LocalDef.{LocalDef}
use Rattle.c_expr_rules.specs.Views.{seen_state}
use Rattle.c_names.specs.Code.{here_at}
use Rattle.c_file_rules.specs.Functions.{parameter_homes}
use Rattle.c_statements.proofs.Bodies.{homes_go, homes_end}
use Rattle.c_statements.proofs.functions.parameter_homes.Goals as goal

pub parameters-init : goal.parameters-init
parameters-init g c =
    let here = here_at c.args.scene.now.facts.now (g.S.Surroundings.told c.args.scene.now.around.now) in
    (ap (λ (l : List LocalDef). l ++ parameter_homes here (seen_state c.args.state.now) 0 c.args.parameters.now) c.new-homes.ensures.items, refl)

pub parameters-preserved : goal.parameters-preserved
parameters-preserved g c =
    let here = here_at c.args.scene.now.facts.now (g.S.Surroundings.told c.args.scene.now.around.now) in
    let s = seen_state c.args.state.now in
    (homes_go here s c.parameters.homes.items c.add_home.new.homes.items c.parameters.number c.in_ok-number.number c.args.parameters.now c.parameters.listed-index _ _ c.parameters-test.true refl (c.in_ok-add_home.ensures ∙ ap (λ (l : List LocalDef). c.parameters.homes.items ++ l) c.parameter_home.ensures) c.in_ok-number.ensures ∙ c.parameters.invariant.0, omega (arith, c.in_ok-number.ensures, c.parameters.invariant.1))

pub returns : goal.returns
returns g c =
    let here = here_at c.args.scene.now.facts.now (g.S.Surroundings.told c.args.scene.now.around.now) in
    let s = seen_state c.args.state.now in
    sym (homes_end here s c.parameters.homes.items c.parameters.number c.args.parameters.now c.parameters.listed-index c.parameters-test.false) ∙ c.parameters.invariant.0
