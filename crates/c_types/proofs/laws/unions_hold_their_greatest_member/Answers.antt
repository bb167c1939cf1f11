-- A union's members lie together.
use Rattle.c_types.proofs.LayoutsHold.{union_layout_is}
use Rattle.c_types.proofs.laws.unions_hold_their_greatest_member.Goals as goal

pub returns : goal.returns
returns c = union_layout_is c.args.members.now
