use Rattle.code_thread.proofs.Registers.{put_at_set}
use Rattle.code_thread.proofs.act.put.Goals as goal

pub returns-clause-put : goal.returns-clause-put
returns-clause-put c = put_at_set c.args.registers.now.items c.args.register c.args.value c.requires
