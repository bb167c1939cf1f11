use Rattle.std.proofs.Common.{◌≡◌, ◌+◌, ◌-◌, ◌<◌, length, sym, subst}
use Rattle.c_parts.specs.Reading.{repeat}
use Rattle.c_parts.specs.Kinds.{has}
use Rattle.c_cursor.specs.Input.{answer}
use Rattle.c_cursor.proofs.Loops.{so_far, turn_on, turn_failed, loop_stops, gives_err}
use Rattle.c_syntax.specs.Grammar as spec
use Rattle.c_expr_parser.proofs.grammar.Grammar.postfix_operators.Goals as goal

pub returns-then-not-next_is : goal.returns-then-not-next_is
returns-then-not-next_is g c =
    loop_stops (has (spec.postfix_operator (spec.inner c.args.self.now.room)).shape.starts) (spec.postfix_operator (spec.inner c.args.self.now.room)).read ((length c.args.cursor.now.rest) - c.operators._turn) c.operators.cursor c.operators.operators (answer (repeat (has (spec.postfix_operator (spec.inner c.args.self.now.room)).shape.starts) (spec.postfix_operator (spec.inner c.args.self.now.room)).read) c.args.cursor.now) c.operators.invariant (sym c.if-not-next_is.ensures)

pub returns-in_err-operator : goal.returns-in_err-operator
returns-in_err-operator g c =
    gives_err (answer (repeat (has (spec.postfix_operator (spec.inner c.args.self.now.room)).shape.starts) (spec.postfix_operator (spec.inner c.args.self.now.room)).read) c.args.cursor.now) c.from_residual.result c.in_err-operator.field-0.0 c.postfix_operator.new.cursor c.from_residual.ensures.1
    (turn_failed (has (spec.postfix_operator (spec.inner c.args.self.now.room)).shape.starts) (spec.postfix_operator (spec.inner c.args.self.now.room)).read (length c.args.cursor.now.rest) c.operators._turn c.operators.cursor c.postfix_operator.new.cursor c.operators.operators c.in_err-operator.field-0.0 (answer (repeat (has (spec.postfix_operator (spec.inner c.args.self.now.room)).shape.starts) (spec.postfix_operator (spec.inner c.args.self.now.room)).read) c.args.cursor.now) (subst (λ n. c.operators._turn < n) c.remaining-turn-end.ensures c.operators-test.true) c.operators.invariant (sym c.if-not-next_is.ensures) c.in_err-operator.ensures)

pub operators-preserved : goal.operators-preserved
operators-preserved g c =
    subst (λ l. so_far (has (spec.postfix_operator (spec.inner c.args.self.now.room)).shape.starts) (spec.postfix_operator (spec.inner c.args.self.now.room)).read ((length c.args.cursor.now.rest) - (c.operators._turn + 1)) c.postfix_operator.new.cursor l ≡ (answer (repeat (has (spec.postfix_operator (spec.inner c.args.self.now.room)).shape.starts) (spec.postfix_operator (spec.inner c.args.self.now.room)).read) c.args.cursor.now)) (sym c.in_ok-push.ensures.ok)
    (turn_on (has (spec.postfix_operator (spec.inner c.args.self.now.room)).shape.starts) (spec.postfix_operator (spec.inner c.args.self.now.room)).read (length c.args.cursor.now.rest) c.operators._turn c.operators.cursor c.postfix_operator.new.cursor c.operators.operators c.in_ok-operator.operator (answer (repeat (has (spec.postfix_operator (spec.inner c.args.self.now.room)).shape.starts) (spec.postfix_operator (spec.inner c.args.self.now.room)).read) c.args.cursor.now) (subst (λ n. c.operators._turn < n) c.remaining-turn-end.ensures c.operators-test.true) c.operators.invariant (sym c.if-not-next_is.ensures) c.in_ok-operator.ensures)
