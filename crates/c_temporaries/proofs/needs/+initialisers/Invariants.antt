-- The greatest need so far and that of the rest of the items are that of all. The recursion ends by the trees' depth.
use Rattle.std.proofs.Common.{◌≡◌, max, drop}
use Rattle.c_file_rules.specs.Values.{initialiser_temporaries, greatest}
use Rattle.c_temporaries.specs.TemporaryLists.{as_u64}
use Rattle.c_temporaries.proofs.needs.+initialisers.Given as goal

abbrev pub invariant-in_initialisers-items : goal.invariant-in_initialisers-items
invariant-in_initialisers-items l =
    max (as_u64 (greatest initialiser_temporaries (drop l.item-index l.items))) l.most ≡ as_u64 (greatest initialiser_temporaries l.items)
