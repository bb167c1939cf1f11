-- Statements nest less than what they stand in. What is given the whole statement ranks below what gives it, and what goes over
-- a list above what looks at an element.
use Rattle.std.proofs.Common.{◌≡◌, ◌+◌, ◌*◌, drop}
use Rattle.c_expr_rules.specs.Views.{seen_state, Grows}
use Rattle.c_names.specs.Code.{here_at}
use Rattle.c_file_rules.specs.Statements.{nothing_switched}
use Rattle.c_statements.specs.StatementLists.{item_list, switch_list}
use Rattle.c_statements.proofs.Before.{statements_before}
use Rattle.c_statements.proofs.statements.+statements.Given as goal

abbrev pub decreases-choice_made : goal.decreases-choice_made
decreases-choice_made g l = 8 * goal.size-choice_made g l + 1

abbrev pub decreases-while_made : goal.decreases-while_made
decreases-while_made g l = 8 * goal.size-while_made g l + 1

abbrev pub decreases-do_made : goal.decreases-do_made
decreases-do_made g l = 8 * goal.size-do_made g l + 1

abbrev pub decreases-for_made : goal.decreases-for_made
decreases-for_made g l = 8 * goal.size-for_made g l + 1

abbrev pub decreases-switch_body : goal.decreases-switch_body
decreases-switch_body g l = 8 * goal.size-switch_body g l

abbrev pub decreases-switch_made : goal.decreases-switch_made
decreases-switch_made g l = 8 * goal.size-switch_made g l + 1

abbrev pub decreases-statement_made : goal.decreases-statement_made
decreases-statement_made g l = 8 * goal.size-statement_made g l + 2

abbrev pub decreases-statement_under : goal.decreases-statement_under
decreases-statement_under g l = 8 * goal.size-statement_under g l + 3

abbrev pub decreases-block_item : goal.decreases-block_item
decreases-block_item g l = 8 * goal.size-block_item g l + 3

abbrev pub decreases-switch_item : goal.decreases-switch_item
decreases-switch_item g l = 8 * goal.size-switch_item g l + 3

abbrev pub decreases-block_items : goal.decreases-block_items
decreases-block_items g l = 8 * goal.size-block_items g l + 4

abbrev pub decreases-switch_items : goal.decreases-switch_items
decreases-switch_items g l = 8 * goal.size-switch_items g l + 4

abbrev pub invariant-block_items-items : goal.invariant-block_items-items
invariant-block_items-items g l =
    let here = here_at l.scene.facts.now (g.S.Surroundings.told l.scene.around.now) in
    (statements_before l.statements (item_list here l.inside (seen_state l.state) (drop l.item-index l.items))
    ≡ item_list here l.inside (seen_state l.fn.state) l.items)
    × Grows l.fn.state l.state

abbrev pub invariant-switch_items-items : goal.invariant-switch_items-items
invariant-switch_items-items g l =
    let here = here_at l.scene.facts.now (g.S.Surroundings.told l.scene.around.now) in
    (switch_list here l.inside l.kind (seen_state l.state) l.switched (drop l.item-index l.items)
    ≡ switch_list here l.inside l.kind (seen_state l.fn.state) nothing_switched l.items)
    × Grows l.fn.state l.state
