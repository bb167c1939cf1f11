-- What is made so far, with the derivations that are left, is what the declarator makes.
use Rattle.std.proofs.Common.{drop}
use Rattle.c_types.proofs.Deriving.{IsDeriving}
use Rattle.c_types.proofs.table.Types.derive_all.Given as goal

abbrev pub invariant-loop-derivation : goal.invariant-loop-derivation
invariant-loop-derivation l = IsDeriving l.fn.self l.self l.fn.base l.part l.derivations (drop l.derivation-index l.derivations)
