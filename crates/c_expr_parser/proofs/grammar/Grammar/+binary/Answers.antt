use Rattle.std.proofs.Common.{◌≡◌, ◌+◌, ◌-◌, ◌<◌, true, false, length, sym, ap, ◌∙◌, subst, arith}
use Rattle.c_parts.specs.Reading.{repeat, ahead, Took}
use Rattle.c_parts.specs.Kinds.{has}
use Rattle.c_cursor.specs.Input.{answer}
use Rattle.c_cursor.proofs.Loops.{so_far, turn_on, loop_stops, gives_err}
use Rattle.c_syntax.specs.Values.{chain}
use Rattle.c_syntax.specs.Grammar as spec
use Rattle.c_expr_parser.proofs.Binary.{first_failed, links_failed, level_read}
use Rattle.c_expr_parser.proofs.grammar.Grammar.+binary.Goals as goal

pub links-returns-then-not-next_is : goal.links-returns-then-not-next_is
links-returns-then-not-next_is g t c =
    loop_stops (has (spec.operators_over c.args.tighter)) (spec.link (spec.operators_over c.args.tighter) (spec.binary c.args.tighter (spec.inner c.args.self.now.room))).read ((length c.args.cursor.now.rest) - c.links._turn) c.links.cursor c.links.links (answer (repeat (has (spec.operators_over c.args.tighter)) (spec.link (spec.operators_over c.args.tighter) (spec.binary c.args.tighter (spec.inner c.args.self.now.room))).read) c.args.cursor.now) c.links.invariant (subst (λ ks. ahead (has ks) c.links.cursor.state c.links.cursor.rest ≡ false) c.operators_over.ensures (sym c.if-not-next_is.ensures))

pub links-links-preserved : goal.links-links-preserved
links-links-preserved g t c =
    subst (λ l. so_far (has (spec.operators_over c.args.tighter)) (spec.link (spec.operators_over c.args.tighter) (spec.binary c.args.tighter (spec.inner c.args.self.now.room))).read ((length c.args.cursor.now.rest) - (c.links._turn + 1)) c.link.new.cursor l ≡ (answer (repeat (has (spec.operators_over c.args.tighter)) (spec.link (spec.operators_over c.args.tighter) (spec.binary c.args.tighter (spec.inner c.args.self.now.room))).read) c.args.cursor.now)) (sym c.in_ok-push.ensures.ok)
    (turn_on (has (spec.operators_over c.args.tighter)) (spec.link (spec.operators_over c.args.tighter) (spec.binary c.args.tighter (spec.inner c.args.self.now.room))).read (length c.args.cursor.now.rest) c.links._turn c.links.cursor c.link.new.cursor c.links.links c.in_ok-link.link (answer (repeat (has (spec.operators_over c.args.tighter)) (spec.link (spec.operators_over c.args.tighter) (spec.binary c.args.tighter (spec.inner c.args.self.now.room))).read) c.args.cursor.now) (subst (λ n. c.links._turn < n) c.remaining-turn-end.ensures c.links-test.true) c.links.invariant (subst (λ ks. ahead (has ks) c.links.cursor.state c.links.cursor.rest ≡ true) c.operators_over.ensures (sym c.if-not-next_is.ensures)) c.in_ok-link.ensures)

pub binary-returns-in_err-expr : goal.binary-returns-in_err-expr
binary-returns-in_err-expr g t c =
    gives_err (answer (spec.binary c.args.level (spec.inner c.args.self.now.room)).read c.args.cursor.now) c.from_residual.result c.in_err-expr.field-0.0 c.cast.new.cursor c.from_residual.ensures.1
    (first_failed (spec.inner c.args.self.now.room) c.args.level c.args.cursor.now c.cast.new.cursor c.in_err-expr.field-0.0 c.in_err-expr.ensures)

pub binary-returns-in_err-links : goal.binary-returns-in_err-links
binary-returns-in_err-links g t c =
    gives_err (answer (spec.binary c.args.level (spec.inner c.args.self.now.room)).read c.args.cursor.now) c.from_residual-in_err-links.result c.in_err-links.field-0.0 c.links.new.cursor c.from_residual-in_err-links.ensures.1
    (links_failed (spec.inner c.args.self.now.room) c.levels.tighter c.args.level c.args.cursor.now c.levels.cursor c.links.new.cursor c.levels.expr c.in_err-links.field-0.0 c.levels-test.true c.levels.invariant c.in_err-links.ensures)

pub binary-levels-preserved : goal.binary-levels-preserved
binary-levels-preserved g t c =
    level_read (spec.inner c.args.self.now.room) c.levels.tighter c.args.cursor.now c.levels.cursor c.links.new.cursor c.start-start.result c.levels.expr c.in_ok-links.links c.in_ok-expr-2.expr
    c.levels.invariant c.in_ok-links.ensures c.start-start.ensures (c.in_ok-expr-2.ensures ∙ ap (λ s. chain s c.levels.expr c.in_ok-links.links) c.span-span.ensures)

pub binary-levels-init : goal.binary-levels-init
binary-levels-init g t c = c.in_ok-expr.ensures

pub binary-returns : goal.binary-returns
binary-returns g t c =
    subst (λ m. answer (spec.binary m (spec.inner c.args.self.now.room)).read c.args.cursor.now ≡ Took c.levels.expr c.levels.cursor.rest c.levels.cursor.state)
    (let q : c.levels.tighter ≡ c.args.level = omega arith in q) c.levels.invariant
