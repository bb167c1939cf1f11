-- The names so far are those of the functions so far.
use Rattle.std.proofs.Common.{◌≡◌, take}
use Rattle.std.specs.List.{filter_map}
use Rattle.c_file_rules.specs.Files.{body_name}
use Rattle.c_names.proofs.facts.bodies_of.Given as goal

abbrev pub invariant-items : goal.invariant-items
invariant-items l = l.bodies ≡ filter_map body_name (take l.item-index l.item-items)
