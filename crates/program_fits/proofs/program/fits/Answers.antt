-- All but the functions' trees fits, and then these decide.
use Rattle.std.proofs.Common.{length, refl}
use Rattle.program_fits.proofs.Loops.{no_true, fails, second_decides, first_lacks, follows_ok}
use Rattle.program_fits.proofs.Programs.{program_view}
use Rattle.program_fits.proofs.program.fits.Goals as goal

pub returns-then-frame_fits : goal.returns-then-frame_fits
returns-then-frame_fits c =
    follows_ok c.functions_fit.result
    (second_decides (program_view c.args.functions.now c.args.statics.now c.args.main (length c.args.statics.now) c.new-names.result c.new-names.ensures refl) (c.frame_fits.ensures.0 c.if-frame_fits.true))
    c.functions_fit.ensures

pub returns-else-frame_fits : goal.returns-else-frame_fits
returns-else-frame_fits c =
    no_true
    (first_lacks (program_view c.args.functions.now c.args.statics.now c.args.main (length c.args.statics.now) c.new-names.result c.new-names.ensures refl)
    (fails c.frame_fits.result c.frame_fits.ensures c.if-frame_fits.false))
