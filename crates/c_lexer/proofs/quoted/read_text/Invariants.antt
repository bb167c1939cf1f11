use Rattle.std.proofs.Common.{◌≡◌, ◌-◌, ◌≤◌, ◌++◌, drop, length}
use Rattle.std.specs.Option.{option_map}
use Rattle.c_lexer.specs.Quoted.{values_of}
use Rattle.c_lexer.proofs.quoted.read_text.Given as goal

-- the values so far, and those of what is left, are those of the text
abbrev pub invariant-loop-at : goal.invariant-loop-at
invariant-loop-at l = record {
  within : l.at ≤ length l.body;
  so_far : option_map (λ values. l.bytes.items ++ values) (values_of 0 (drop l.at l.body)) ≡ values_of 0 l.body;
}

abbrev pub decreases-loop-at : goal.decreases-loop-at
decreases-loop-at l = length l.body - l.at
