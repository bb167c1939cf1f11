-- The types and the names so far are those of the rows so far.
use Rattle.std.proofs.Common.{◌≡◌, ◌+◌, [], take}
use Rattle.c_scope.specs.Scopes.{no_names}
use Rattle.c_file_rules.specs.Operations.{intrinsics, with_intrinsics}
use Rattle.c_names.proofs.beginning.add_intrinsics.Given as goal

abbrev pub invariant-rows : goal.invariant-rows
invariant-rows l =
    let so_far = with_intrinsics l.bodies (take l.row-index intrinsics) ([], no_names) in
    (l.types ≡ so_far.0) × (l.scopes ≡ so_far.1) × (l.number ≡ l.bodies + l.row-index)
