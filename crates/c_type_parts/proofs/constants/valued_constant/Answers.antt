-- The value is converted to int, and the name is declared by its letters.
use Rattle.std.proofs.Common.{◌∙◌}
use Rattle.c_expr_rules.specs.Views.{seen_state}
use Rattle.c_names.specs.Code.{here_at}
use Rattle.c_type_parts.proofs.Declaring.{is_valued}
use Rattle.c_type_parts.proofs.constants.valued_constant.Goals as goal

pub returns-clause-found : goal.returns-clause-found
returns-clause-found g c =
    let here = here_at c.args.scene.now.facts.now (g.S.Surroundings.told c.args.scene.now.around.now) in
    is_valued here (seen_state c.args.state.now) (seen_state c.declare.new.state) c.args.name c.args.value c.convert-kept.result c.args.counted c.next_counted.result c.in_ok-is_again.is_again c.spelling.result.now
    c.spelling.ensures c.convert-kept.ensures.exact c.in_ok-is_again.ensures.again c.in_ok-is_again.ensures.state c.next_counted.ensures
