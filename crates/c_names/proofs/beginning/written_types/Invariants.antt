-- The types so far and those of the rest are those of all.
use Rattle.std.proofs.Common.{◌≡◌, ◌++◌, drop, map}
use Rattle.c_names.specs.Begun.{seen_written}
use Rattle.c_file_rules.specs.Operations.{written_types}
use Rattle.c_names.proofs.beginning.written_types.Given as goal

abbrev pub invariant-types : goal.invariant-types
invariant-types l =
    let rest = written_types l.types (map seen_written (drop l.one-index l.written)) in
    let all = written_types l.fn.types (map seen_written l.written) in
    (rest.0 ≡ all.0) × (l.numbers.items ++ rest.1 ≡ all.1)
