-- A static object's size fits, and then its halves decide.
use Rattle.std.proofs.Common.{arith}
use Rattle.program_fits.proofs.Loops.{no_true, second_decides, follows}
use Rattle.program_fits.proofs.Programs.{static_view}
use Rattle.program_fits.proofs.program.static_fits.Goals as goal

pub returns-then-object-gt-MOST_OBJECT_BYTES : goal.returns-then-object-gt-MOST_OBJECT_BYTES
returns-then-object-gt-MOST_OBJECT_BYTES c =
    no_true (λ h. omega (arith, h.size))

pub returns : goal.returns
returns c =
    follows c.halves_fit.result (second_decides (static_view c.args.names.now c.args.object.now c.as_slice.result.now c.as_slice.ensures.value) (omega arith))
    c.halves_fit.ensures
