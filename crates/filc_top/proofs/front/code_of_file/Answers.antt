-- Where there is no text nothing was put out.
use Rattle.filc_top.proofs.Causes.{code_ends}
use Rattle.filc_top.proofs.front.code_of_file.Goals as goal

pub returns-in-Err : goal.returns-in-Err
returns-in-Err c = code_ends c.args.file.now c.in-Err.cause c.args.output.now.items c.in-Err.ensures.ended c.requires
