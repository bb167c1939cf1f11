use Rattle.std.proofs.Common.{◌+◌, ◌*◌, length, map}
use Rattle.form_reader.specs.Grammar.{IsOfRank, IsPrefix}
use Rattle.form_reader.proofs.Ranks.{AreSoFar}
use Rattle.form_reader.proofs.expressions.+expression.Given as goal

abbrev pub decreases-expression : goal.decreases-expression
decreases-expression l = 16 * l.room + 2 * l.rank + 2

abbrev pub decreases-links : goal.decreases-links
decreases-links l = 16 * l.room + 2 * l.below + 3

abbrev pub decreases-prefixed : goal.decreases-prefixed
decreases-prefixed l = 16 * l.room + 1

abbrev pub decreases-marked : goal.decreases-marked
decreases-marked l = 16 * l.room

abbrev pub invariant-links-loop-op : goal.invariant-links-loop-op
invariant-links-loop-op l =
    AreSoFar l.below (IsOfRank l.below (IsPrefix (map (λ n. n.now) l.names) l.room)) l.fn.tokens l.tokens l.links

abbrev pub decreases-links-loop-op : goal.decreases-links-loop-op
decreases-links-loop-op l = length l.tokens
