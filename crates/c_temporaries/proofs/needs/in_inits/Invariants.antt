-- The greatest need so far and that of the rest of the declarators are that of all.
use Rattle.std.proofs.Common.{◌≡◌, max, drop}
use Rattle.c_file_rules.specs.Values.{init_temporaries, greatest}
use Rattle.c_temporaries.specs.TemporaryLists.{as_u64}
use Rattle.c_temporaries.proofs.needs.in_inits.Given as goal

abbrev pub invariant-loop-init : goal.invariant-loop-init
invariant-loop-init l =
    max (as_u64 (greatest init_temporaries (drop l.init-index l.inits))) l.most ≡ as_u64 (greatest init_temporaries l.inits)
