-- Each turn reads one more, and the loop ends where no more begins.
use Rattle.std.proofs.Common.{◌≡◌, ◌+◌, ◌-◌, ◌<◌, ◌∷◌, [], length, sym, subst}
use Rattle.c_parts.specs.declared.terminal.Terminal.TheVariants as t
use Rattle.c_parts.specs.Production.{optional}
use Rattle.c_parts.specs.Reading.{repeat, change}
use Rattle.c_parts.specs.Kinds.{has}
use Rattle.c_cursor.specs.Input.{answer}
use Rattle.c_cursor.proofs.Loops.{gives_err, kept, keep_on, keep_failed, keep_stops}
use Rattle.c_expr_parser.proofs.Present.{keeps_present}
use Rattle.c_syntax.specs.Values.{present}
use Rattle.c_syntax.specs.Grammar as grammar
use Rattle.c_syntax.specs.Grammar.{inner}
use Rattle.c_syntax.specs.Files as spec
use Rattle.c_syntax.specs.Files.{bodies}
use Rattle.c_file_parser.proofs.rules.Rules.more_initialisers.Goals as goal

pub returns-then-not-next_is : goal.returns-then-not-next_is
returns-then-not-next_is g c =
    keep_stops present keeps_present (has (t.Comma ∷ [])) (grammar.comma_and (optional (spec.initialiser_part (inner c.args.self.now.room) (bodies c.args.self.now.room)))).read ((length c.args.cursor.now.rest) - c.more._turn) c.more.cursor c.more.more (answer (change present (repeat (has (t.Comma ∷ [])) (grammar.comma_and (optional (spec.initialiser_part (inner c.args.self.now.room) (bodies c.args.self.now.room)))).read)) c.args.cursor.now) c.more.invariant (sym c.if-not-next_is.ensures)

pub returns-in_err-one : goal.returns-in_err-one
returns-in_err-one g c =
    gives_err (answer (change present (repeat (has (t.Comma ∷ [])) (grammar.comma_and (optional (spec.initialiser_part (inner c.args.self.now.room) (bodies c.args.self.now.room)))).read)) c.args.cursor.now) c.from_residual.result c.in_err-one.field-0.0 c.next_initialiser.new.cursor c.from_residual.ensures.1
    (keep_failed present keeps_present (has (t.Comma ∷ [])) (grammar.comma_and (optional (spec.initialiser_part (inner c.args.self.now.room) (bodies c.args.self.now.room)))).read (length c.args.cursor.now.rest) c.more._turn c.more.cursor c.next_initialiser.new.cursor c.more.more c.in_err-one.field-0.0 (answer (change present (repeat (has (t.Comma ∷ [])) (grammar.comma_and (optional (spec.initialiser_part (inner c.args.self.now.room) (bodies c.args.self.now.room)))).read)) c.args.cursor.now) (subst (λ n. c.more._turn < n) c.remaining-turn-end.ensures c.more-test.true) c.more.invariant (sym c.if-not-next_is.ensures) c.in_err-one.ensures)

pub more-preserved : goal.more-preserved
more-preserved g c =
    subst (λ l. kept present (has (t.Comma ∷ [])) (grammar.comma_and (optional (spec.initialiser_part (inner c.args.self.now.room) (bodies c.args.self.now.room)))).read ((length c.args.cursor.now.rest) - (c.more._turn + 1)) c.next_initialiser.new.cursor l ≡ (answer (change present (repeat (has (t.Comma ∷ [])) (grammar.comma_and (optional (spec.initialiser_part (inner c.args.self.now.room) (bodies c.args.self.now.room)))).read)) c.args.cursor.now)) (sym c.in_ok-keep.ensures)
    (keep_on present keeps_present (has (t.Comma ∷ [])) (grammar.comma_and (optional (spec.initialiser_part (inner c.args.self.now.room) (bodies c.args.self.now.room)))).read (length c.args.cursor.now.rest) c.more._turn c.more.cursor c.next_initialiser.new.cursor c.more.more c.in_ok-one.one (answer (change present (repeat (has (t.Comma ∷ [])) (grammar.comma_and (optional (spec.initialiser_part (inner c.args.self.now.room) (bodies c.args.self.now.room)))).read)) c.args.cursor.now) (subst (λ n. c.more._turn < n) c.remaining-turn-end.ensures c.more-test.true) c.more.invariant (sym c.if-not-next_is.ensures) c.in_ok-one.ensures)
