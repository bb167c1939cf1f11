-- The name is declared by its letters, and the value after it is the next.
use Rattle.std.proofs.Common.{refl}
use Rattle.c_expr_rules.specs.Views.{seen_state}
use Rattle.c_names.specs.Code.{here_at}
use Rattle.c_file_rules.specs.Tags.{after_constant}
use Rattle.c_file_rules.specs.declared.parts.Counted.{Counted}
use Rattle.c_type_parts.proofs.Declaring.{counts_on}
use Rattle.c_type_parts.proofs.constants.counted_constant.Goals as goal

pub returns-clause-found : goal.returns-clause-found
returns-clause-found g c =
    let here = here_at c.args.scene.now.facts.now (g.S.Surroundings.told c.args.scene.now.around.now) in
    let next : Counted = record { value = after_constant c.args.counted.value; is_again = c.args.counted.is_again } in
    counts_on here (seen_state c.args.state.now) (seen_state c.declare.new.state) c.args.line c.args.name c.args.counted next c.in_ok-is_again.is_again c.spelling.result.now c.obey.result
    c.spelling.ensures c.in_ok-is_again.ensures.again c.in_ok-is_again.ensures.state
    refl
    c.obey.ensures
