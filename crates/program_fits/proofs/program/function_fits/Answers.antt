-- A function's numbers fit, and then its body decides.
use Rattle.program_fits.proofs.Loops.{no_true, fails, second_decides, first_lacks, follows_ok}
use Rattle.std.proofs.Common.{refl}
use Rattle.c_tree.specs.Fits.{body_context}
use Rattle.program_fits.proofs.Programs.{function_view}
use Rattle.program_fits.proofs.program.function_fits.Goals as goal

pub returns-then-registers_fit : goal.returns-then-registers_fit
returns-then-registers_fit c =
    follows_ok c.stmt_fits.result
    (second_decides (function_view c.args.names.now c.args.function.now c.of_body-place.result c.of_body-place.ensures) (c.registers_fit.ensures.0 c.if-registers_fit.true))
    c.stmt_fits.ensures

pub returns-else-registers_fit : goal.returns-else-registers_fit
returns-else-registers_fit c =
    no_true
    (first_lacks (function_view c.args.names.now c.args.function.now (body_context c.args.function.now) refl)
    (fails c.registers_fit.result c.registers_fit.ensures c.if-registers_fit.false))
