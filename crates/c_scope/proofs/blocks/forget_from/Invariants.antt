-- What is left to take away is what was so at first, and what is there is indexed.
use Rattle.std.proofs.Common.{vec_len}
use Rattle.c_scope.specs.Stacks.{newest_known}
use Rattle.c_scope.proofs.Stacking.{IsForgetting}
use Rattle.c_scope.proofs.blocks.forget_from.Given as goal

abbrev pub invariant-loop-declarations : goal.invariant-loop-declarations
invariant-loop-declarations l = IsForgetting (newest_known l.newest) l.start l.fn.declarations.items l.declarations.items

abbrev pub decreases-loop-declarations : goal.decreases-loop-declarations
decreases-loop-declarations l = vec_len l.declarations
