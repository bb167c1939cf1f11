-- The homes behind the locals before the index.
use Rattle.std.proofs.Common.{drop}
use Rattle.program_fits.proofs.Homes.{IsLeft}
use Rattle.program_fits.proofs.statement.homes_inside.Given as goal

abbrev pub invariant-loop-local : goal.invariant-loop-local
invariant-loop-local l = IsLeft l.here l.homes.items (drop l.local-index l.locals) l.locals
