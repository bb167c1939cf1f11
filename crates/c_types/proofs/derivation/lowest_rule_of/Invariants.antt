-- The rule so far, with what is left, is the whole.
use Rattle.std.proofs.Common.{◌≡◌, drop, None}
use Rattle.c_types.specs.Derivations.{lowest_rule, shape_in}
use Rattle.c_types.proofs.derivation.lowest_rule_of.Given as goal

abbrev pub invariant-loop-derivation : goal.invariant-loop-derivation
invariant-loop-derivation l = lowest_rule (shape_in l.shape) l.lowest (drop l.derivation-index l.derivations) ≡ lowest_rule (shape_in l.fn.shape) None l.derivations
