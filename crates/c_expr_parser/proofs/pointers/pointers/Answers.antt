use Rattle.std.proofs.Common.{◌≡◌, ◌+◌, ◌-◌, ◌<◌, ◌∷◌, [], length, sym, subst}
use Rattle.c_parts.specs.declared.terminal.Terminal.TheVariants as t
use Rattle.c_parts.specs.Reading.{repeat}
use Rattle.c_parts.specs.Kinds.{has}
use Rattle.c_cursor.specs.Input.{answer}
use Rattle.c_cursor.proofs.Loops.{so_far, turn_on, turn_failed, loop_stops, gives_err}
use Rattle.c_syntax.specs.Grammar as spec
use Rattle.c_expr_parser.proofs.pointers.pointers.Goals as goal

pub returns-then-not-next_is : goal.returns-then-not-next_is
returns-then-not-next_is c =
    loop_stops (has (t.Star ∷ [])) (spec.pointer).read ((length c.args.cursor.now.rest) - c.pointers._turn) c.pointers.cursor c.pointers.pointers (answer (repeat (has (t.Star ∷ [])) (spec.pointer).read) c.args.cursor.now) c.pointers.invariant (sym c.if-not-next_is.ensures)

pub returns-in_err-one : goal.returns-in_err-one
returns-in_err-one c =
    gives_err (answer (repeat (has (t.Star ∷ [])) (spec.pointer).read) c.args.cursor.now) c.from_residual.result c.in_err-one.field-0.0 c.pointer.new.cursor c.from_residual.ensures.1
    (turn_failed (has (t.Star ∷ [])) (spec.pointer).read (length c.args.cursor.now.rest) c.pointers._turn c.pointers.cursor c.pointer.new.cursor c.pointers.pointers c.in_err-one.field-0.0 (answer (repeat (has (t.Star ∷ [])) (spec.pointer).read) c.args.cursor.now) (subst (λ n. c.pointers._turn < n) c.remaining-turn-end.ensures c.pointers-test.true) c.pointers.invariant (sym c.if-not-next_is.ensures) c.in_err-one.ensures)

pub pointers-preserved : goal.pointers-preserved
pointers-preserved c =
    subst (λ l. so_far (has (t.Star ∷ [])) (spec.pointer).read ((length c.args.cursor.now.rest) - (c.pointers._turn + 1)) c.pointer.new.cursor l ≡ (answer (repeat (has (t.Star ∷ [])) (spec.pointer).read) c.args.cursor.now)) (sym c.in_ok-push.ensures.ok)
    (turn_on (has (t.Star ∷ [])) (spec.pointer).read (length c.args.cursor.now.rest) c.pointers._turn c.pointers.cursor c.pointer.new.cursor c.pointers.pointers c.in_ok-one.one (answer (repeat (has (t.Star ∷ [])) (spec.pointer).read) c.args.cursor.now) (subst (λ n. c.pointers._turn < n) c.remaining-turn-end.ensures c.pointers-test.true) c.pointers.invariant (sym c.if-not-next_is.ensures) c.in_ok-one.ensures)
