-- The tag is declared at the end of its list.
use Rattle.std.proofs.Common.{ap, ◌∙◌}
use Rattle.std.specs.Prelude.{true}
use Rattle.c_types.specs.declared.entry.Tag.{Tag}
use Rattle.c_expr_rules.specs.Views.{seen_state}
use Rattle.c_names.specs.Code.{here_at}
use Rattle.c_file_rules.specs.Tags.{tag_declared}
use Rattle.c_type_parts.proofs.Records.{record_is_found}
use Rattle.c_type_parts.proofs.members.record_found.Goals as goal

pub returns-clause-found : goal.returns-clause-found
returns-clause-found g c =
    let here = here_at c.args.scene.now.facts.now (g.S.Surroundings.told c.args.scene.now.around.now) in
    record_is_found here (seen_state c.args.state.now) (seen_state c.laid_type.new.state) (seen_state c.declare_tag.new.state) c.args.word c.args.tag c.args.number c.args.parts c.with_part.result c.args.seen c.as_slice.result.now c.in_ok-found.found c.tag_declared.result c.has_tag_or.result
    c.as_slice.ensures c.in_ok-found.ensures.state c.in_ok-found.ensures.found (c.tag_declared.ensures ∙ ap (λ (k : Tag). tag_declared k c.args.number true) c.tag_of.ensures) c.in_ok-declare_tag.ensures.state c.has_tag_or.ensures c.with_part.ensures
