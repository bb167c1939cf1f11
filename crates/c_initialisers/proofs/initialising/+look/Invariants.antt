-- The items that are left give what all of them do.
use Rattle.std.proofs.Common.{◌≡◌, drop}
use Rattle.c_expr_rules.specs.Views.{seen_state, Grows}
use Rattle.c_file_rules.specs.Filling.{look_list}
use Rattle.c_initialisers.proofs.initialising.+look.Given as goal

abbrev pub invariant-look_at_all-items : goal.invariant-look_at_all-items
invariant-look_at_all-items g l =
    let around = g.S.Surroundings.told l.checker.around.now in
    (look_list around (seen_state l.state) (drop l.item-index l.items) ≡ look_list around (seen_state l.fn.state) l.items)
    × Grows l.fn.state l.state
