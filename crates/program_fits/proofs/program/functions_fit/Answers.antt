-- Each function is tested, and the loop stops at one that doesn't fit.
use Rattle.c_tree.specs.Fits.{FunctionFits}
use Rattle.program_fits.proofs.Loops.{no_true, fails, stops, goes_on, ends}
use Rattle.program_fits.proofs.program.functions_fit.Goals as goal

pub returns-then-not-keeps : goal.returns-then-not-keeps
returns-then-not-keeps c =
    no_true
    (stops (FunctionFits c.args.names.now) c.args.functions.now c.loop-function.function-index c.function-item.result c.loop-function-test.true c.function-item.is
    (fails c.in_ok-keeps.keeps c.in_ok-keeps.ensures c.if-not-keeps.true))

pub loop-function-preserved : goal.loop-function-preserved
loop-function-preserved c =
    goes_on (FunctionFits c.args.names.now) c.args.functions.now c.loop-function.function-index c.function-item.result c.loop-function-test.true c.function-item.is
    (c.in_ok-keeps.ensures.0 c.if-not-keeps.false) c.loop-function.invariant

pub returns : goal.returns
returns c =
    ends (FunctionFits c.args.names.now) c.args.functions.now c.loop-function.function-index c.loop-function-test.false c.loop-function.invariant
