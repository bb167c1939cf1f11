-- The set so far, with the qualifiers that are left, is the whole set.
use Rattle.std.proofs.Common.{◌≡◌, drop}
use Rattle.c_specifiers.specs.QualifierSets.{with_qualifiers}
use Rattle.c_specifiers.proofs.qualifiers.qualifiers_of.Given as goal

abbrev pub invariant-loop-qualifier : goal.invariant-loop-qualifier
invariant-loop-qualifier l = with_qualifiers l.set.0 (drop l.qualifier-index l.list) ≡ with_qualifiers 0 l.list
