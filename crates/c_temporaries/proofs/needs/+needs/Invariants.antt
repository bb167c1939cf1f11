-- The greatest need so far and that of the rest of a list are that of all of it. The recursion ends by the trees' depth.
use Rattle.std.proofs.Common.{◌≡◌, max, drop}
use Rattle.c_file_rules.specs.Values.{item_temporaries, switch_item_temporaries, greatest}
use Rattle.c_temporaries.specs.TemporaryLists.{as_u64}
use Rattle.c_temporaries.proofs.needs.+needs.Given as goal

abbrev pub invariant-temporaries_in-items : goal.invariant-temporaries_in-items
invariant-temporaries_in-items l =
    max (as_u64 (greatest item_temporaries (drop l.item-index l.items))) l.most ≡ as_u64 (greatest item_temporaries l.items)

abbrev pub invariant-in_switch-items : goal.invariant-in_switch-items
invariant-in_switch-items l =
    max (as_u64 (greatest switch_item_temporaries (drop l.item-index l.items))) l.most ≡ as_u64 (greatest switch_item_temporaries l.items)
