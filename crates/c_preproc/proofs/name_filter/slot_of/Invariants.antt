use Rattle.std.proofs.Common.{◌≡◌, ◌<◌, drop}
use Rattle.c_preproc.specs.Code.NameFilter.{slot_from}
use Rattle.c_preproc.proofs.name_filter.slot_of.Given as goal

-- the slot of what is left, from the slot so far
abbrev pub invariant-loop-b : goal.invariant-loop-b
invariant-loop-b l = record {
  low : l.slot < 262144;
  so_far : slot_from l.slot (drop l.b-index l.name) ≡ slot_from 0 l.name;
}
