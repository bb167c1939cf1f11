-- The rule so far, with the parameters that are left, is the whole.
use Rattle.std.proofs.Common.{◌≡◌, drop, None}
use Rattle.c_declarators.specs.Parameters.{lowest_rule}
use Rattle.c_declarators.proofs.parameters.lowest_rule_of.Given as goal

abbrev pub invariant-loop-parameter : goal.invariant-loop-parameter
invariant-loop-parameter l = lowest_rule l.types l.lowest (drop l.parameter-index l.parameters) ≡ lowest_rule l.types None l.parameters
