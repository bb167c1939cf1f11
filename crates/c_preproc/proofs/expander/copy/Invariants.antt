use Rattle.std.proofs.Common.{◌≡◌, ◌≤◌, ◌++◌}
use Rattle.c_preproc.specs.Code.Expander.{part_of}
use Rattle.c_preproc.proofs.expander.copy.Given as goal

abbrev pub invariant-loop-at : goal.invariant-loop-at
invariant-loop-at l = (l.tokens.items ≡ l.fn.tokens.items ++ part_of l.fn.tokens.items l.fn.kept.start l.at) × (l.fn.kept.start ≤ l.at) × (l.at ≤ l.at-end)
