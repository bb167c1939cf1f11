use Rattle.std.proofs.Common.{◌≡◌, ◌+◌, ◌-◌, ◌<◌, length, sym, subst}
use Rattle.c_parts.specs.Reading.{repeat}
use Rattle.c_parts.specs.Kinds.{has}
use Rattle.c_cursor.specs.Input.{answer}
use Rattle.c_cursor.proofs.Loops.{so_far, turn_on, turn_failed, loop_stops, gives_err}
use Rattle.c_syntax.specs.Grammar as spec
use Rattle.c_expr_parser.proofs.pointers.qualifiers.Goals as goal

pub returns-then-not-next_is : goal.returns-then-not-next_is
returns-then-not-next_is c =
    loop_stops (has spec.qualifier.shape.starts) (spec.qualifier).read ((length c.args.cursor.now.rest) - c.qualifiers._turn) c.qualifiers.cursor c.qualifiers.qualifiers (answer (repeat (has spec.qualifier.shape.starts) (spec.qualifier).read) c.args.cursor.now) c.qualifiers.invariant (sym c.if-not-next_is.ensures)

pub returns-in_err-one : goal.returns-in_err-one
returns-in_err-one c =
    gives_err (answer (repeat (has spec.qualifier.shape.starts) (spec.qualifier).read) c.args.cursor.now) c.from_residual.result c.in_err-one.field-0.0 c.qualifier.new.cursor c.from_residual.ensures.1
    (turn_failed (has spec.qualifier.shape.starts) (spec.qualifier).read (length c.args.cursor.now.rest) c.qualifiers._turn c.qualifiers.cursor c.qualifier.new.cursor c.qualifiers.qualifiers c.in_err-one.field-0.0 (answer (repeat (has spec.qualifier.shape.starts) (spec.qualifier).read) c.args.cursor.now) (subst (λ n. c.qualifiers._turn < n) c.remaining-turn-end.ensures c.qualifiers-test.true) c.qualifiers.invariant (sym c.if-not-next_is.ensures) c.in_err-one.ensures)

pub qualifiers-preserved : goal.qualifiers-preserved
qualifiers-preserved c =
    subst (λ l. so_far (has spec.qualifier.shape.starts) (spec.qualifier).read ((length c.args.cursor.now.rest) - (c.qualifiers._turn + 1)) c.qualifier.new.cursor l ≡ (answer (repeat (has spec.qualifier.shape.starts) (spec.qualifier).read) c.args.cursor.now)) (sym c.in_ok-push.ensures.ok)
    (turn_on (has spec.qualifier.shape.starts) (spec.qualifier).read (length c.args.cursor.now.rest) c.qualifiers._turn c.qualifiers.cursor c.qualifier.new.cursor c.qualifiers.qualifiers c.in_ok-one.one (answer (repeat (has spec.qualifier.shape.starts) (spec.qualifier).read) c.args.cursor.now) (subst (λ n. c.qualifiers._turn < n) c.remaining-turn-end.ensures c.qualifiers-test.true) c.qualifiers.invariant (sym c.if-not-next_is.ensures) c.in_ok-one.ensures)
