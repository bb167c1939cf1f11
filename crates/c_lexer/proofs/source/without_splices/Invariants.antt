use Rattle.std.proofs.Common.{◌≡◌, ◌-◌, ◌≤◌, ◌++◌, drop, length, vec_len}
use Rattle.c_lexer.specs.Source.{without_splices}
use Rattle.c_lexer.proofs.source.without_splices.Given as goal

-- the bytes so far, and those of what is left, are those of the whole file
abbrev pub invariant-loop-at : goal.invariant-loop-at
invariant-loop-at l = record {
  within : l.at ≤ length l.file;
  bytes : l.bytes.items ++ without_splices (drop l.at l.file) ≡ without_splices l.file;
  fewer : vec_len l.bytes ≤ l.at;
}

abbrev pub decreases-loop-at : goal.decreases-loop-at
decreases-loop-at l = length l.file - l.at
