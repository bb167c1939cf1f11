-- The suffixes from the index on are appended, the last one first.
use Rattle.std.proofs.Common.{◌≡◌, ◌++◌, map, reverse, drop}
use Rattle.c_declarators.specs.Declarators.{suffix_derivation}
use Rattle.c_declarators.proofs.derivations.append_suffixes.Given as goal

abbrev pub invariant-loop-index : goal.invariant-loop-index
invariant-loop-index l = l.derivations.items ≡ l.fn.derivations.items ++ reverse (map (suffix_derivation l.known) (drop l.index l.suffixes))
