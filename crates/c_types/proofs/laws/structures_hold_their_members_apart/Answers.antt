-- A structure's members lie in order and apart.
use Rattle.c_types.proofs.LayoutsHold.{structure_layout}
use Rattle.c_types.proofs.laws.structures_hold_their_members_apart.Goals as goal

pub returns : goal.returns
returns c = structure_layout c.args.members.now
