use Rattle.std.proofs.Common.{◌≡◌, ◌+◌, ◌-◌, ◌≤◌, drop, length}
use Rattle.std.specs.Option.{option_map}
use Rattle.c_lexer.specs.Quoted.{values_of}
use Rattle.c_lexer.proofs.quoted.count_values.Given as goal

-- what is left has as many values as the whole without those that were counted
abbrev pub invariant-loop-at : goal.invariant-loop-at
invariant-loop-at l = record {
  within : l.at ≤ length l.body;
  fewer : l.count ≤ l.at;
  so_far : option_map length (values_of 0 l.body) ≡ option_map (λ n. n + l.count) (option_map length (values_of 0 (drop l.at l.body)));
}

abbrev pub decreases-loop-at : goal.decreases-loop-at
decreases-loop-at l = length l.body - l.at
