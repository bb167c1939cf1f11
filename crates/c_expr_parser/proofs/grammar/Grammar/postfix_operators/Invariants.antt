use Rattle.std.proofs.Common.{◌≡◌, ◌-◌, length}
use Rattle.c_parts.specs.Reading.{repeat}
use Rattle.c_parts.specs.Kinds.{has}
use Rattle.c_cursor.specs.Input.{answer}
use Rattle.c_cursor.proofs.Loops.{so_far}
use Rattle.c_syntax.specs.Grammar as spec
use Rattle.c_expr_parser.proofs.grammar.Grammar.postfix_operators.Given as goal

abbrev pub invariant-operators : goal.invariant-operators
invariant-operators g l = so_far (has (spec.postfix_operator (spec.inner l.self.room)).shape.starts) (spec.postfix_operator (spec.inner l.self.room)).read (length l.initial.cursor.rest - l._turn) l.cursor l.operators ≡ answer (repeat (has (spec.postfix_operator (spec.inner l.self.room)).shape.starts) (spec.postfix_operator (spec.inner l.self.room)).read) l.initial.cursor
