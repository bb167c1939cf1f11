-- The types so far and those of the rest are those of all.
use Rattle.std.proofs.Common.{drop}
use Rattle.c_file_rules.specs.Declarators.{adjusted_types}
use Rattle.c_type_parts.proofs.Adjusted.{AreTypes}
use Rattle.c_type_parts.proofs.parameters.adjusted_types.Given as goal

abbrev pub invariant-parameters : goal.invariant-parameters
invariant-parameters l = AreTypes (adjusted_types l.fn.types l.parameters) l.types l.numbers.items (drop l.parameter-index l.parameters)
