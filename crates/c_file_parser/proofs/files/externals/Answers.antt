-- Each turn reads one more, and the loop ends where no more begins.
use Rattle.std.proofs.Common.{◌≡◌, ◌+◌, ◌-◌, ◌<◌, length, sym, subst}
use Rattle.c_parts.specs.Reading.{repeat}
use Rattle.c_parts.specs.Kinds.{has}
use Rattle.c_cursor.specs.Input.{answer}
use Rattle.c_cursor.proofs.Loops.{so_far, turn_on, turn_failed, loop_stops, gives_err}
use Rattle.c_syntax.specs.Grammar.{inner}
use Rattle.c_syntax.specs.Files as spec
use Rattle.c_syntax.specs.Files.{bodies}
use Rattle.c_file_parser.proofs.files.externals.Goals as goal

pub returns-then-not-next_is : goal.returns-then-not-next_is
returns-then-not-next_is c =
    loop_stops (has (spec.external (inner c.args.room) (bodies c.args.room)).shape.starts) (spec.external (inner c.args.room) (bodies c.args.room)).read ((length c.args.cursor.now.rest) - c.items._turn) c.items.cursor c.items.items (answer (repeat (has (spec.external (inner c.args.room) (bodies c.args.room)).shape.starts) (spec.external (inner c.args.room) (bodies c.args.room)).read) c.args.cursor.now) c.items.invariant (sym c.if-not-next_is.ensures)

pub returns-in_err-one : goal.returns-in_err-one
returns-in_err-one c =
    gives_err (answer (repeat (has (spec.external (inner c.args.room) (bodies c.args.room)).shape.starts) (spec.external (inner c.args.room) (bodies c.args.room)).read) c.args.cursor.now) c.from_residual.result c.in_err-one.field-0.0 c.external.new.cursor c.from_residual.ensures.1
    (turn_failed (has (spec.external (inner c.args.room) (bodies c.args.room)).shape.starts) (spec.external (inner c.args.room) (bodies c.args.room)).read (length c.args.cursor.now.rest) c.items._turn c.items.cursor c.external.new.cursor c.items.items c.in_err-one.field-0.0 (answer (repeat (has (spec.external (inner c.args.room) (bodies c.args.room)).shape.starts) (spec.external (inner c.args.room) (bodies c.args.room)).read) c.args.cursor.now) (subst (λ n. c.items._turn < n) c.remaining-turn-end.ensures c.items-test.true) c.items.invariant (sym c.if-not-next_is.ensures) c.in_err-one.ensures)

pub items-preserved : goal.items-preserved
items-preserved c =
    subst (λ l. so_far (has (spec.external (inner c.args.room) (bodies c.args.room)).shape.starts) (spec.external (inner c.args.room) (bodies c.args.room)).read ((length c.args.cursor.now.rest) - (c.items._turn + 1)) c.external.new.cursor l ≡ (answer (repeat (has (spec.external (inner c.args.room) (bodies c.args.room)).shape.starts) (spec.external (inner c.args.room) (bodies c.args.room)).read) c.args.cursor.now)) (sym c.in_ok-push.ensures.ok)
    (turn_on (has (spec.external (inner c.args.room) (bodies c.args.room)).shape.starts) (spec.external (inner c.args.room) (bodies c.args.room)).read (length c.args.cursor.now.rest) c.items._turn c.items.cursor c.external.new.cursor c.items.items c.in_ok-one.one (answer (repeat (has (spec.external (inner c.args.room) (bodies c.args.room)).shape.starts) (spec.external (inner c.args.room) (bodies c.args.room)).read) c.args.cursor.now) (subst (λ n. c.items._turn < n) c.remaining-turn-end.ensures c.items-test.true) c.items.invariant (sym c.if-not-next_is.ensures) c.in_ok-one.ensures)
