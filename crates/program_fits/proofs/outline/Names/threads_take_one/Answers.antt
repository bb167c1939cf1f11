-- One argument is what each thread takes.
use Rattle.program_fits.proofs.Callees.{threads}
use Rattle.program_fits.proofs.outline.Names.threads_take_one.Goals as goal

pub returns : goal.returns
returns c = threads c.kind_takes.result c.args.self.now.callees c.kind_takes.ensures
