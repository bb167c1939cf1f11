use Rattle.std.proofs.Common.{◌≡◌, ◌+◌, ◌-◌, ◌<◌, ◌∷◌, [], length, sym, subst}
use Rattle.c_parts.specs.declared.terminal.Terminal.TheVariants as t
use Rattle.c_parts.specs.Reading.{repeat}
use Rattle.c_parts.specs.Kinds.{has}
use Rattle.c_cursor.specs.Input.{answer}
use Rattle.c_cursor.proofs.Loops.{so_far, turn_on, turn_failed, loop_stops, gives_err}
use Rattle.c_syntax.specs.Grammar as spec
use Rattle.c_expr_parser.proofs.grammar.Grammar.suffixes.Goals as goal

pub returns-then-not-next_is : goal.returns-then-not-next_is
returns-then-not-next_is g c =
    loop_stops (has (t.LeftBracket ∷ t.LeftParen ∷ [])) (spec.suffix_part (spec.inner c.args.self.now.room)).read ((length c.args.cursor.now.rest) - c.list._turn) c.list.cursor c.list.list (answer (repeat (has (t.LeftBracket ∷ t.LeftParen ∷ [])) (spec.suffix_part (spec.inner c.args.self.now.room)).read) c.args.cursor.now) c.list.invariant (sym c.if-not-next_is.ensures)

pub returns-in_err-one : goal.returns-in_err-one
returns-in_err-one g c =
    gives_err (answer (repeat (has (t.LeftBracket ∷ t.LeftParen ∷ [])) (spec.suffix_part (spec.inner c.args.self.now.room)).read) c.args.cursor.now) c.from_residual.result c.in_err-one.field-0.0 c.suffix.new.cursor c.from_residual.ensures.1
    (turn_failed (has (t.LeftBracket ∷ t.LeftParen ∷ [])) (spec.suffix_part (spec.inner c.args.self.now.room)).read (length c.args.cursor.now.rest) c.list._turn c.list.cursor c.suffix.new.cursor c.list.list c.in_err-one.field-0.0 (answer (repeat (has (t.LeftBracket ∷ t.LeftParen ∷ [])) (spec.suffix_part (spec.inner c.args.self.now.room)).read) c.args.cursor.now) (subst (λ n. c.list._turn < n) c.remaining-turn-end.ensures c.list-test.true) c.list.invariant (sym c.if-not-next_is.ensures) c.in_err-one.ensures)

pub list-preserved : goal.list-preserved
list-preserved g c =
    subst (λ l. so_far (has (t.LeftBracket ∷ t.LeftParen ∷ [])) (spec.suffix_part (spec.inner c.args.self.now.room)).read ((length c.args.cursor.now.rest) - (c.list._turn + 1)) c.suffix.new.cursor l ≡ (answer (repeat (has (t.LeftBracket ∷ t.LeftParen ∷ [])) (spec.suffix_part (spec.inner c.args.self.now.room)).read) c.args.cursor.now)) (sym c.in_ok-push.ensures.ok)
    (turn_on (has (t.LeftBracket ∷ t.LeftParen ∷ [])) (spec.suffix_part (spec.inner c.args.self.now.room)).read (length c.args.cursor.now.rest) c.list._turn c.list.cursor c.suffix.new.cursor c.list.list c.in_ok-one.one (answer (repeat (has (t.LeftBracket ∷ t.LeftParen ∷ [])) (spec.suffix_part (spec.inner c.args.self.now.room)).read) c.args.cursor.now) (subst (λ n. c.list._turn < n) c.remaining-turn-end.ensures c.list-test.true) c.list.invariant (sym c.if-not-next_is.ensures) c.in_ok-one.ensures)
