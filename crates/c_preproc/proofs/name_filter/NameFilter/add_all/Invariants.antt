use Rattle.std.proofs.Common.{take}
use Rattle.c_preproc.specs.Code.NameFilter.{AreIn, IsMore}
use Rattle.c_preproc.proofs.name_filter.NameFilter.add_all.Given as goal

-- the names so far are in it
abbrev pub invariant-loop-token : goal.invariant-loop-token
invariant-loop-token l = record {
  more : IsMore l.fn.self.slots.items l.self.slots.items;
  added : AreIn l.self.slots.items l.bytes (take l.token-index l.tokens);
}
