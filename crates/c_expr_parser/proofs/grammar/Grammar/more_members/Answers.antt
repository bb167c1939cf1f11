use Rattle.std.proofs.Common.{◌≡◌, ◌+◌, ◌-◌, ◌<◌, length, sym, subst}
use Rattle.c_parts.specs.Reading.{repeat}
use Rattle.c_parts.specs.Kinds.{has}
use Rattle.c_cursor.specs.Input.{answer}
use Rattle.c_cursor.proofs.Loops.{so_far, turn_on, turn_failed, loop_stops, gives_err}
use Rattle.c_syntax.specs.Grammar as spec
use Rattle.c_expr_parser.proofs.grammar.Grammar.more_members.Goals as goal

pub returns-then-not-next_is : goal.returns-then-not-next_is
returns-then-not-next_is g c =
    loop_stops (has (spec.member (spec.inner c.args.self.now.room)).shape.starts) (spec.member (spec.inner c.args.self.now.room)).read ((length c.args.cursor.now.rest) - c.more._turn) c.more.cursor c.more.more (answer (repeat (has (spec.member (spec.inner c.args.self.now.room)).shape.starts) (spec.member (spec.inner c.args.self.now.room)).read) c.args.cursor.now) c.more.invariant (sym c.if-not-next_is.ensures)

pub returns-in_err-one : goal.returns-in_err-one
returns-in_err-one g c =
    gives_err (answer (repeat (has (spec.member (spec.inner c.args.self.now.room)).shape.starts) (spec.member (spec.inner c.args.self.now.room)).read) c.args.cursor.now) c.from_residual.result c.in_err-one.field-0.0 c.member.new.cursor c.from_residual.ensures.1
    (turn_failed (has (spec.member (spec.inner c.args.self.now.room)).shape.starts) (spec.member (spec.inner c.args.self.now.room)).read (length c.args.cursor.now.rest) c.more._turn c.more.cursor c.member.new.cursor c.more.more c.in_err-one.field-0.0 (answer (repeat (has (spec.member (spec.inner c.args.self.now.room)).shape.starts) (spec.member (spec.inner c.args.self.now.room)).read) c.args.cursor.now) (subst (λ n. c.more._turn < n) c.remaining-turn-end.ensures c.more-test.true) c.more.invariant (sym c.if-not-next_is.ensures) c.in_err-one.ensures)

pub more-preserved : goal.more-preserved
more-preserved g c =
    subst (λ l. so_far (has (spec.member (spec.inner c.args.self.now.room)).shape.starts) (spec.member (spec.inner c.args.self.now.room)).read ((length c.args.cursor.now.rest) - (c.more._turn + 1)) c.member.new.cursor l ≡ (answer (repeat (has (spec.member (spec.inner c.args.self.now.room)).shape.starts) (spec.member (spec.inner c.args.self.now.room)).read) c.args.cursor.now)) (sym c.in_ok-push.ensures.ok)
    (turn_on (has (spec.member (spec.inner c.args.self.now.room)).shape.starts) (spec.member (spec.inner c.args.self.now.room)).read (length c.args.cursor.now.rest) c.more._turn c.more.cursor c.member.new.cursor c.more.more c.in_ok-one.one (answer (repeat (has (spec.member (spec.inner c.args.self.now.room)).shape.starts) (spec.member (spec.inner c.args.self.now.room)).read) c.args.cursor.now) (subst (λ n. c.more._turn < n) c.remaining-turn-end.ensures c.more-test.true) c.more.invariant (sym c.if-not-next_is.ensures) c.in_ok-one.ensures)
