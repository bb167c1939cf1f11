-- The tag is that of the new type.
use Rattle.c_expr_rules.specs.Views.{seen_state}
use Rattle.c_names.specs.Code.{here_at}
use Rattle.c_type_parts.proofs.Tagging.{tag_is_new}
use Rattle.c_type_parts.proofs.tags.new_tag.Goals as goal

pub returns-clause-state : goal.returns-clause-state
returns-clause-state g c =
    let here = here_at c.args.scene.now.facts.now (g.S.Surroundings.told c.args.scene.now.around.now) in
    tag_is_new here (seen_state c.args.state.now) (seen_state c.declare_tag.new.state) c.args.kind c.args.tag c.new_type.new.types c.in_ok-number.number c.tag_declared.result
    c.in_ok-number.ensures.grown c.in_ok-number.ensures.gives c.tag_declared.ensures c.in_ok-declare_tag.ensures.state
