use Rattle.std.proofs.Common.{◌≡◌, ◌+◌, ◌*◌, ◌-◌, length}
use Rattle.c_parts.specs.Reading.{repeat, Took}
use Rattle.c_parts.specs.Kinds.{has}
use Rattle.c_cursor.specs.Input.{answer}
use Rattle.c_cursor.proofs.Loops.{so_far}
use Rattle.c_syntax.specs.Grammar as spec
use Rattle.c_expr_parser.proofs.grammar.Grammar.+binary.Given as goal

abbrev pub decreases-binary : goal.decreases-binary
decreases-binary g l = 3 * l.level

abbrev pub decreases-links : goal.decreases-links
decreases-links g l = 3 * l.tighter + 2

abbrev pub decreases-link : goal.decreases-link
decreases-link g l = 3 * l.tighter + 1

abbrev pub invariant-links-links : goal.invariant-links-links
invariant-links-links g l =
    so_far (has (spec.operators_over l.tighter)) (spec.link (spec.operators_over l.tighter) (spec.binary l.tighter (spec.inner l.self.room))).read (length l.initial.cursor.rest - l._turn) l.cursor l.links
    ≡ answer (repeat (has (spec.operators_over l.tighter)) (spec.link (spec.operators_over l.tighter) (spec.binary l.tighter (spec.inner l.self.room))).read) l.initial.cursor

abbrev pub invariant-binary-levels : goal.invariant-binary-levels
invariant-binary-levels g l = answer (spec.binary l.tighter (spec.inner l.self.room)).read l.fn.cursor ≡ Took l.expr l.cursor.rest l.cursor.state
