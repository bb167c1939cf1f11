-- The first line among the functions that are left is that among all.
use Rattle.std.proofs.Common.{◌≡◌, drop}
use Rattle.std.specs.List.{filter_map}
use Rattle.c_file_rules.specs.Files.{first_of, too_many_values}
use Rattle.c_objects.proofs.closing.too_many_values.Given as goal

abbrev pub invariant-loop-made : goal.invariant-loop-made
invariant-loop-made l =
    first_of (filter_map too_many_values (drop l.made-index l.functions)) ≡ first_of (filter_map too_many_values l.functions)
