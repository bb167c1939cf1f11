-- Each static object is tested, and the loop stops at one that doesn't fit.
use Rattle.c_tree.specs.Fits.{StaticFits}
use Rattle.program_fits.proofs.Loops.{no_true, fails, stops, goes_on, ends}
use Rattle.program_fits.proofs.program.statics_fit.Goals as goal

pub returns-then-not-static_fits : goal.returns-then-not-static_fits
returns-then-not-static_fits c =
    no_true
    (stops (StaticFits c.args.names.now) c.args.statics.now c.loop-object.object-index c.object-item.result c.loop-object-test.true c.object-item.is
    (fails c.static_fits.result c.static_fits.ensures c.if-not-static_fits.true))

pub loop-object-preserved : goal.loop-object-preserved
loop-object-preserved c =
    goes_on (StaticFits c.args.names.now) c.args.statics.now c.loop-object.object-index c.object-item.result c.loop-object-test.true c.object-item.is
    (c.static_fits.ensures.0 c.if-not-static_fits.false) c.loop-object.invariant

pub returns : goal.returns
returns c = ends (StaticFits c.args.names.now) c.args.statics.now c.loop-object.object-index c.loop-object-test.false c.loop-object.invariant
