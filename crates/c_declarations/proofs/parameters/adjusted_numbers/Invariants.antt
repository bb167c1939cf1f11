-- The parameters before the index are adjusted.
use Rattle.c_declarations.proofs.Adjusting.{IsAdjusting}
use Rattle.c_declarations.proofs.parameters.adjusted_numbers.Given as goal

abbrev pub invariant-loop-parameter : goal.invariant-loop-parameter
invariant-loop-parameter l = IsAdjusting l.fn.types l.types l.parameters l.parameter-index l.numbers.items
