use Rattle.std.proofs.Common.{◌≡◌, [], length, reverse}
use Rattle.c_preproc.specs.Directives.{blocks_of}
use Rattle.c_preproc.specs.Groups.{earlier, unbalanced_line}
use Rattle.c_preproc.proofs.groups.unbalanced_line.Given as goal

-- the earliest line so far, before those of what is left
abbrev pub invariant-loop-hash : goal.invariant-loop-hash
invariant-loop-hash l = earlier l.least (unbalanced_line l.bytes (reverse l.opens.items) (blocks_of l.bytes 0 l.rest)) ≡ unbalanced_line l.bytes [] (blocks_of l.bytes 0 l.tokens)

abbrev pub decreases-loop-hash : goal.decreases-loop-hash
decreases-loop-hash l = length l.rest
