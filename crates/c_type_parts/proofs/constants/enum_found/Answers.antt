-- The tag is declared at the end of its list.
use Rattle.std.proofs.Common.{ap, ◌∙◌}
use Rattle.std.specs.Prelude.{Result, true}
use Rattle.c_types.specs.declared.ctype.Part.{Part}
use Rattle.c_rules.specs.declared.rule.Rule.{Rule}
use Rattle.c_tree.specs.declared.declared.Declared.{Declared}
use Rattle.c_declarations.specs.Specified.{lowest}
use Rattle.c_expr_rules.specs.Views.{seen_state}
use Rattle.c_names.specs.Code.{here_at}
use Rattle.c_file_rules.specs.Naming.{with_types}
use Rattle.c_file_rules.specs.Tags.{named_tag, with_part}
use Rattle.c_type_parts.proofs.Tagging.{enum_is_found}
use Rattle.c_type_parts.proofs.constants.enum_found.Goals as goal

pub returns-clause-found : goal.returns-clause-found
returns-clause-found g c =
    let here = here_at c.args.scene.now.facts.now (g.S.Surroundings.told c.args.scene.now.around.now) in
    enum_is_found here (seen_state c.args.state.now) (seen_state c.declare_tag.new.state) c.args.tag c.args.parts c.with_part.result c.args.counted c.new_type.new.types c.in_ok-number.number c.lowest-broken.result
    c.in_ok-number.ensures.grown c.in_ok-number.ensures.gives (c.lowest-broken.ensures ∙ (λ i. lowest (c.when.ensures i) (c.tag_rule.ensures i)))
    (c.in_ok-declare_tag.ensures.state ∙ ap (λ (d : Declared). named_tag here (with_types c.new_type.new.types (seen_state c.args.state.now)) c.args.tag d) c.tag_declared.ensures)
    (c.with_part.ensures ∙ ap (λ (x : Result Part Rule). with_part true x c.args.parts) c.part_or.ensures)
