-- The locals so far are there.
use Rattle.std.proofs.Common.{◌≡◌, take}
use Rattle.c_file_rules.proofs.homes.Homes.of.Given as goal

abbrev pub invariant-loop-local : goal.invariant-loop-local
invariant-loop-local l = l.homes ≡ take l.local-index l.locals
