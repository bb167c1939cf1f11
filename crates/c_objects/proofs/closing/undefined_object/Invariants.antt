-- The first line so far is that of what is used so far.
use Rattle.std.proofs.Common.{◌≡◌, take}
use Rattle.std.specs.Prelude.{reverse}
use Rattle.std.specs.List.{filter_map}
use Rattle.c_expr_rules.specs.Views.{seen_state}
use Rattle.c_file_rules.specs.Files.{first_line, linked_in, undefined_object}
use Rattle.c_objects.proofs.closing.undefined_object.Given as goal

abbrev pub invariant-used : goal.invariant-used
invariant-used l =
    l.first ≡ first_line (filter_map (undefined_object (linked_in (seen_state l.state))) (reverse (take l.used-index l.state.used.items)))
