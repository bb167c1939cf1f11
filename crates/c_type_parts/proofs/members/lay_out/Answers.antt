-- Members' contents are put at the type's number, and its extent is theirs.
use Rattle.std.proofs.Common.{ℕ, List, ap, ◌∙◌}
use Rattle.c_types.specs.Extensions.{completed}
use Rattle.c_expr_rules.specs.Views.{seen_state}
use Rattle.c_names.proofs.Growth.{grows_by_contents}
use Rattle.c_file_rules.specs.Tags.{contents_with}
use Rattle.c_type_parts.specs.Laid.{plain_layout}
use Rattle.c_type_parts.proofs.Growing.{then_types}
use Rattle.c_type_parts.proofs.Records.{members_are_laid}
use Rattle.c_type_parts.proofs.members.lay_out.Goals as goal

pub returns-clause-state : goal.returns-clause-state
returns-clause-state c =
    members_are_laid c.args.state.now c.insert.new.self c.complete_once.new.types c.args.kind c.args.number c.in_ok-contents.contents c.args.members.now (plain_layout c.args.layout.now)
    c.in_ok-insert.ensures.updates
    (c.in_ok-contents.ensures ∙ ap (λ (offsets : List ℕ). contents_with (seen_state c.args.state.now) c.args.members.now offsets) c.as_slice.ensures.value)
    (c.complete_once.ensures ∙ (λ i. completed c.args.state.now.types c.args.kind c.args.number (c.extent.ensures.size i) (c.extent.ensures.align i)))

pub returns-clause-grows : goal.returns-clause-grows
returns-clause-grows c =
    then_types c.args.state.now (record c.args.state.now { contents = c.insert.new.self }) c.complete_once.new.types (grows_by_contents c.args.state.now c.insert.new.self)
