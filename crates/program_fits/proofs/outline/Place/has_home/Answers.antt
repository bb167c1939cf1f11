-- The homes stand the other way round.
use Rattle.std.proofs.Common.{ap}
use Rattle.c_tree.specs.Operands.{Context}
use Rattle.program_fits.proofs.Callees.{sought}
use Rattle.program_fits.proofs.outline.Place.has_home.Goals as goal

pub returns : goal.returns
returns c =
    sought c.self.inside.homes.now c.args.self.now.homes c.args.local c.contains.result (ap (λ (p : Context). p.homes) c.self.view_is)
    c.contains.ensures.cases
