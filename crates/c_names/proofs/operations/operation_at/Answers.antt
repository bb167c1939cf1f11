-- The table is that of the definition.
use Rattle.std.proofs.Common.{refl, Some, None}
use Rattle.std.proofs.lemmas.Option.{slice_get_past, slice_get_read}
use Rattle.c_names.proofs.Rowed.{placed_at}
use Rattle.c_names.proofs.operations.operation_at.Goals as goal

pub returns-in-None : goal.returns-in-None
returns-in-None c =
    placed_at c.args.bodies c.args.number c.operations-operations.result None c.operations-operations.ensures c.if-number-bodies.false
    (slice_get_past c.operations-operations.result _ c.in-None.ensures.lookup.3)

pub returns-in-Some : goal.returns-in-Some
returns-in-Some c =
    placed_at c.args.bodies c.args.number c.operations-operations.result (Some c.in-Some.operation.now) c.operations-operations.ensures c.if-number-bodies.false
    (slice_get_read c.operations-operations.result _ _ c.in-Some.operation.now refl c.in-Some.ensures.lookup.3.0 c.in-Some.ensures.lookup.1)
