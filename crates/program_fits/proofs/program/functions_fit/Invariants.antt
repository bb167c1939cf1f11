-- What stands before the index fits.
use Rattle.std.proofs.Common.{All, take}
use Rattle.c_tree.specs.Fits.{FunctionFits}
use Rattle.program_fits.proofs.program.functions_fit.Given as goal

abbrev pub invariant-loop-function : goal.invariant-loop-function
invariant-loop-function l = All (FunctionFits l.names) (take l.function-index l.functions)
