-- The contents of a type are found by its number.
use Rattle.std.proofs.Common.{List, ap, ◌∙◌}
use Rattle.std.specs.Prelude.{false}
use Rattle.c_expr_rules.specs.Views.{seen_state}
use Rattle.c_expr_rules.specs.declared.state.MemberPlace.{MemberPlace}
use Rattle.c_file_rules.specs.Tags.{with_contents}
use Rattle.c_names.proofs.Growth.{grows_by_contents}
use Rattle.c_type_parts.proofs.Laying.{contents_are_put}
use Rattle.c_type_parts.proofs.members.lay_out_nothing.Goals as goal

pub returns-clause-state : goal.returns-clause-state
returns-clause-state c = contents_are_put c.args.state.now c.insert.new.self c.args.number _ c.in_ok-insert.ensures.updates
    ∙ ap (λ (ms : List MemberPlace). with_contents c.args.number (record { members = ms; has_const = false }) (seen_state c.args.state.now)) c.new.ensures

pub returns-clause-grows : goal.returns-clause-grows
returns-clause-grows c = grows_by_contents c.args.state.now c.insert.new.self
