-- The fills so far and those of the rest of the bytes are those of all.
use Rattle.std.proofs.Common.{◌≡◌, ◌++◌, drop}
use Rattle.c_file_rules.specs.Statics.{byte_fills}
use Rattle.c_objects.proofs.contents.byte_fills.Given as goal

abbrev pub invariant-bytes : goal.invariant-bytes
invariant-bytes l = l.fills.items ++ byte_fills l.index (drop l.index l.bytes) ≡ byte_fills 0 l.bytes
