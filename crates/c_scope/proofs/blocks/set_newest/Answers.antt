use Rattle.std.proofs.Common.{rules}
use Rattle.c_scope.proofs.Names.{changed_by}
use Rattle.c_scope.proofs.blocks.set_newest.Goals as goal

pub returns-in-Some : goal.returns-in-Some
returns-in-Some c =
    changed_by c.args.newest.now (c.get_mut.follows.lender c.args.index) c.args.name.now c.args.index ((c.get_mut.follows.holds c.args.index).3 (search rules))
