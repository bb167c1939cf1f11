-- The types so far, with those of the rest of the functions, are those of all.
use Rattle.std.proofs.Common.{◌≡◌, drop}
use Rattle.std.specs.Prelude.{fold}
use Rattle.c_objects.specs.Calls.{own_kinds}
use Rattle.c_file_rules.specs.Kinds.{with_kind}
use Rattle.c_objects.proofs.kinded.add_functions.Given as goal

abbrev pub invariant-functions : goal.invariant-functions
invariant-functions l =
    fold with_kind l.kinds (own_kinds (drop l.made-index l.functions)) ≡ fold with_kind l.fn.kinds (own_kinds l.functions)
