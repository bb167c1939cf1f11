-- What the body has is what is left of the registers.
use Rattle.std.proofs.Common.{◌-◌, arith}
use Rattle.program_fits.proofs.Loops.{follows}
use Rattle.program_fits.proofs.Room.{registers_view}
use Rattle.program_fits.proofs.registers.registers_fit.Goals as goal

pub returns : goal.returns
returns c =
    let f = c.args.function.now in
    follows c.stmt_is_within.result (registers_view f (f.values - 6 - f.locals) (omega arith) (omega arith) (omega arith)) c.stmt_is_within.ensures
