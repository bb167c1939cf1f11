use Rattle.std.proofs.Common.{◌≡◌, ◌++◌, map, take}
use Rattle.c_preproc.specs.Macros.{placed_at}
use Rattle.c_preproc.proofs.expander.place.Given as goal

abbrev pub invariant-loop-token : goal.invariant-loop-token
invariant-loop-token l = l.out.items ≡ l.fn.out.items ++ map (placed_at l.name) (take l.token-index l.tokens)
