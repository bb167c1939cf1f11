use Rattle.std.proofs.Common.{◌≡◌, ◌<◌, ◌≤◌, drop, IsTrue}
use Rattle.c_types.specs.Extents.{is_align}
use Rattle.c_types.specs.Layouts.{placements_of, no_placements}
use Rattle.c_types.proofs.members.lay_out.Given as goal

-- what is left to lay gives the whole layout
abbrev pub invariant-loop-member : goal.invariant-loop-member
invariant-loop-member l = record {
  ahead : placements_of l.form no_placements l.members ≡ placements_of l.form (record { offsets = l.offsets.items; end = l.end; align = l.align }) (drop l.member-index l.members);
  within : l.end ≤ 131072;
  some : 0 < l.member-index → 0 < l.end;
  aligned : IsTrue (is_align l.align);
}
