-- The locals so far are those of the functions so far.
use Rattle.std.proofs.Common.{◌≡◌, take}
use Rattle.c_check.specs.Known.{taken_lists}
use Rattle.c_check.proofs.known.homes_of.Given as goal

abbrev pub invariant-functions : goal.invariant-functions
invariant-functions l = l.homes.items ≡ taken_lists (take l.made-index l.functions)
