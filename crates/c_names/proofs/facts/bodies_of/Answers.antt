-- One function more.
use Rattle.std.proofs.Common.{arith}
use Rattle.std.proofs.lemmas.Grind.{common_steps}
use Rattle.std.proofs.lemmas.List.Elements.{filter_map-append}
use Rattle.c_names.proofs.facts.bodies_of.Goals as goal

pub items-preserved : goal.items-preserved
items-preserved c = grind (arith, common_steps, filter_map-append)
