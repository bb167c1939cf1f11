-- The derivations from the index on are appended, the last one first.
use Rattle.std.proofs.Common.{◌≡◌, ◌++◌, reverse, drop}
use Rattle.c_file_rules.proofs.parts.append_reversed.Given as goal

abbrev pub invariant-loop-index : goal.invariant-loop-index
invariant-loop-index l = l.derivations ≡ l.fn.derivations ++ reverse (drop l.index l.more)
