-- Each function is seen as by those that call it.
use Rattle.std.proofs.Common.{ap}
use Rattle.c_tree.specs.Operands.{Outline}
use Rattle.program_fits.proofs.Callees.{over_callees}
use Rattle.program_fits.proofs.outline.Names.kind_takes.Goals as goal

pub returns : goal.returns
returns c =
    over_callees c.args.kind c.args.arguments c.each_takes.result c.self.inside.functions.now c.args.self.now.callees
    (ap (λ (o : Outline). o.callees) c.self.view_is) c.each_takes.ensures
