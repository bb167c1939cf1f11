-- A list in braces needs the greatest need of its items.
use Rattle.std.proofs.Common.{sym, ap, ◌∙◌}
use Rattle.c_file_rules.specs.Values.{greatest, initialiser_temporaries}
use Rattle.c_temporaries.specs.TemporaryLists.{as_u64}
use Rattle.c_temporaries.proofs.StatementNeeds.{list_needs}
use Rattle.c_temporaries.proofs.needs.+initialisers.Goals as goal

pub in_initialiser-returns-in-List : goal.in_initialiser-returns-in-List
in_initialiser-returns-in-List t c =
    let all = ap (greatest initialiser_temporaries) c.as_slice.ensures ∙ sym (list_needs c.in-List.span c.in-List.list) ∙ ap initialiser_temporaries (sym c.in-List.is) in
    c.in_initialisers.ensures ∙ ap as_u64 all
