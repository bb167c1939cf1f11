use Rattle.std.proofs.Common.{arith}
use Rattle.std.proofs.lemmas.Grind.{common_steps}
use Rattle.c_preproc.proofs.Balance.{outermost-first}
use Rattle.c_preproc.proofs.groups.outermost.Goals as goal

pub returns-in-Some : goal.returns-in-Some
returns-in-Some c = outermost-first c.args.opens.now c.in-Some.first.now (grind (arith, common_steps)) (grind (arith, common_steps))
