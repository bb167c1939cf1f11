-- What stands before the index fits.
use Rattle.std.proofs.Common.{All, take}
use Rattle.c_tree.specs.Fits.{StaticFits}
use Rattle.program_fits.proofs.program.statics_fit.Given as goal

abbrev pub invariant-loop-object : goal.invariant-loop-object
invariant-loop-object l = All (StaticFits l.names) (take l.object-index l.statics)
