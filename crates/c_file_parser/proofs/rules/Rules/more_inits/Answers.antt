-- Each turn reads one more, and the loop ends where no more begins.
use Rattle.std.proofs.Common.{◌≡◌, ◌+◌, ◌-◌, ◌<◌, ◌∷◌, [], length, sym, subst}
use Rattle.c_parts.specs.declared.terminal.Terminal.TheVariants as t
use Rattle.c_parts.specs.Reading.{repeat}
use Rattle.c_parts.specs.Kinds.{has}
use Rattle.c_cursor.specs.Input.{answer}
use Rattle.c_cursor.proofs.Loops.{so_far, turn_on, turn_failed, loop_stops, gives_err}
use Rattle.c_syntax.specs.Grammar as grammar
use Rattle.c_syntax.specs.Grammar.{inner}
use Rattle.c_syntax.specs.Files as spec
use Rattle.c_syntax.specs.Files.{bodies}
use Rattle.c_file_parser.proofs.rules.Rules.more_inits.Goals as goal

pub returns-then-not-next_is : goal.returns-then-not-next_is
returns-then-not-next_is g c =
    loop_stops (has (t.Comma ∷ [])) (grammar.comma_and (spec.init (inner c.args.self.now.room) (bodies c.args.self.now.room))).read ((length c.args.cursor.now.rest) - c.more._turn) c.more.cursor c.more.more (answer (repeat (has (t.Comma ∷ [])) (grammar.comma_and (spec.init (inner c.args.self.now.room) (bodies c.args.self.now.room))).read) c.args.cursor.now) c.more.invariant (sym c.if-not-next_is.ensures)

pub returns-in_err-one : goal.returns-in_err-one
returns-in_err-one g c =
    gives_err (answer (repeat (has (t.Comma ∷ [])) (grammar.comma_and (spec.init (inner c.args.self.now.room) (bodies c.args.self.now.room))).read) c.args.cursor.now) c.from_residual.result c.in_err-one.field-0.0 c.next_init.new.cursor c.from_residual.ensures.1
    (turn_failed (has (t.Comma ∷ [])) (grammar.comma_and (spec.init (inner c.args.self.now.room) (bodies c.args.self.now.room))).read (length c.args.cursor.now.rest) c.more._turn c.more.cursor c.next_init.new.cursor c.more.more c.in_err-one.field-0.0 (answer (repeat (has (t.Comma ∷ [])) (grammar.comma_and (spec.init (inner c.args.self.now.room) (bodies c.args.self.now.room))).read) c.args.cursor.now) (subst (λ n. c.more._turn < n) c.remaining-turn-end.ensures c.more-test.true) c.more.invariant (sym c.if-not-next_is.ensures) c.in_err-one.ensures)

pub more-preserved : goal.more-preserved
more-preserved g c =
    subst (λ l. so_far (has (t.Comma ∷ [])) (grammar.comma_and (spec.init (inner c.args.self.now.room) (bodies c.args.self.now.room))).read ((length c.args.cursor.now.rest) - (c.more._turn + 1)) c.next_init.new.cursor l ≡ (answer (repeat (has (t.Comma ∷ [])) (grammar.comma_and (spec.init (inner c.args.self.now.room) (bodies c.args.self.now.room))).read) c.args.cursor.now)) (sym c.in_ok-push.ensures.ok)
    (turn_on (has (t.Comma ∷ [])) (grammar.comma_and (spec.init (inner c.args.self.now.room) (bodies c.args.self.now.room))).read (length c.args.cursor.now.rest) c.more._turn c.more.cursor c.next_init.new.cursor c.more.more c.in_ok-one.one (answer (repeat (has (t.Comma ∷ [])) (grammar.comma_and (spec.init (inner c.args.self.now.room) (bodies c.args.self.now.room))).read) c.args.cursor.now) (subst (λ n. c.more._turn < n) c.remaining-turn-end.ensures c.more-test.true) c.more.invariant (sym c.if-not-next_is.ensures) c.in_ok-one.ensures)
