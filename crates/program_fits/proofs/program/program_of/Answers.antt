-- The lists are those of the functions and static objects that were second_decides.
use Rattle.std.proofs.Common.{sym}
use Rattle.program_fits.proofs.Loops.{fails}
use Rattle.program_fits.proofs.Programs.{same_program}
use Rattle.program_fits.proofs.program.program_of.Goals as goal

pub new-requires : goal.new-requires
new-requires c =
    same_program c.as_slice.result.now c.args.functions.items c.as_slice-2.result.now c.args.statics.items c.args.main c.as_slice.ensures.value
    c.as_slice-2.ensures.value (c.in_ok-keeps.ensures.0 c.if-keeps.true)

pub returns-else-keeps : goal.returns-else-keeps
returns-else-keeps c =
    λ p. fails c.in_ok-keeps.keeps c.in_ok-keeps.ensures c.if-keeps.false
    (same_program c.args.functions.items c.as_slice.result.now c.args.statics.items c.as_slice-2.result.now c.args.main (sym c.as_slice.ensures.value)
    (sym c.as_slice-2.ensures.value) p)
