-- A tag is declared by its letters as by its number.
use Rattle.std.proofs.Common.{sym, ap, ◌∙◌}
use Rattle.c_expr_rules.specs.Views.{seen_state}
use Rattle.c_names.specs.Code.{here_at}
use Rattle.c_file_rules.specs.Tags.{named_tag}
use Rattle.c_type_parts.proofs.Tagging.{tag_stated}
use Rattle.c_type_parts.proofs.tags.declare_tag.Goals as goal

pub returns-in_ok-_is_again-in-Some-clause-state :
    goal.returns-in_ok-_is_again-in-Some-clause-state
returns-in_ok-_is_again-in-Some-clause-state g c =
    let here = here_at c.args.scene.now.facts.now (g.S.Surroundings.told c.args.scene.now.around.now) in
    let s = seen_state c.args.state.now in
    tag_stated here s (seen_state c.declare.new.state) c.in-Some.name c.args.what c.spelling.result.now c.spelling.ensures c.in_ok-_is_again-in-Some.ensures.state
    ∙ ap (λ tag. named_tag here s tag c.args.what) (sym c.in-Some.is)
