-- What was given so far, with what the rest of the items give, is what all of them do.
use Rattle.std.proofs.Common.{◌≡◌, drop}
use Rattle.c_expr_rules.specs.Views.{seen_state, Grows}
use Rattle.c_file_rules.specs.Filling.{fill_list, giving}
use Rattle.c_initialisers.proofs.initialising.+initialiser.Given as goal

abbrev pub invariant-items_filled-items : goal.invariant-items_filled-items
invariant-items_filled-items g l =
    let around = g.S.Surroundings.told l.checker.around.now in
    (giving l.given l.target (fill_list around l.target (seen_state l.state) (drop l.index l.parts) (drop l.item-index l.items))
    ≡ giving l.fn.given l.target (fill_list around l.target (seen_state l.fn.state) l.parts l.items))
    × (l.index ≡ l.item-index) × Grows l.fn.state l.state
