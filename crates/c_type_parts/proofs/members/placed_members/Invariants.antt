-- The members so far stand at their offsets.
use Rattle.std.proofs.Common.{◌≡◌, ◌++◌, drop}
use Rattle.c_file_rules.specs.Tags.{are_placed}
use Rattle.c_type_parts.proofs.members.placed_members.Given as goal

abbrev pub invariant-loop-index : goal.invariant-loop-index
invariant-loop-index l = l.placed ++ are_placed (drop l.index l.members) (drop l.index l.offsets) ≡ are_placed l.members l.offsets
