-- The types from the index on stand in the list.
use Rattle.std.proofs.Common.{◌≡◌, drop}
use Rattle.c_types.specs.Declarators.{Keeps, IsParameterList}
use Rattle.c_types.specs.Extensions.{list_from}
use Rattle.c_types.proofs.table.Types.parameter_list.Given as goal

abbrev pub invariant-loop-index : goal.invariant-loop-index
invariant-loop-index l = Keeps l.fn.self l.self × IsParameterList l.self (drop l.index l.types) l.list × (l.self ≡ (list_from l.fn.self (drop l.index l.types)).0)
    × (l.list ≡ (list_from l.fn.self (drop l.index l.types)).1)
