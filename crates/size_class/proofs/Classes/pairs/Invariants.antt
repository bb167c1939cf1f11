-- The pairs so far are those of the classes.
use Rattle.std.proofs.Common.{◌≡◌, ℕ, ◌<◌, length, get_or}
use Rattle.size_class.proofs.Classes.pairs.Given as goal

abbrev pub invariant-loop-class : goal.invariant-loop-class
invariant-loop-class g l = record {
  as_many : length l.pairs ≡ g.row.N;
  set : (k : ℕ) → k < l.class → get_or l.pairs k (0, 0) ≡ (get_or l.self.words k 0, get_or l.self.cells k 0);
}
