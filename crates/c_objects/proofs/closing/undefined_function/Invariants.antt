-- The first line so far is that of what is used so far: the list is gone through from its oldest, and a least is the same
-- from both ends.
use Rattle.std.proofs.Common.{◌≡◌, take}
use Rattle.std.specs.Prelude.{reverse}
use Rattle.std.specs.List.{filter_map}
use Rattle.c_file_rules.specs.Files.{first_line, undefined_function}
use Rattle.c_objects.proofs.closing.undefined_function.Given as goal

abbrev pub invariant-used : goal.invariant-used
invariant-used l =
    l.first ≡ first_line (filter_map (undefined_function l.bodies) (reverse (take l.used-index l.state.used.items)))
