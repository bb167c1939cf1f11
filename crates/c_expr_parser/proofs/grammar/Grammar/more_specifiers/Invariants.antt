use Rattle.std.proofs.Common.{◌≡◌, ◌-◌, length}
use Rattle.c_parts.specs.Reading.{repeat}
use Rattle.c_parts.specs.Kinds.{has}
use Rattle.c_cursor.specs.Input.{answer}
use Rattle.c_cursor.proofs.Loops.{so_far}
use Rattle.c_syntax.specs.Grammar as spec
use Rattle.c_expr_parser.proofs.grammar.Grammar.more_specifiers.Given as goal

abbrev pub invariant-list : goal.invariant-list
invariant-list g l = so_far (has (spec.specifier (spec.inner l.self.room)).shape.starts) (spec.specifier (spec.inner l.self.room)).read (length l.initial.cursor.rest - l._turn) l.cursor l.list ≡ answer (repeat (has (spec.specifier (spec.inner l.self.room)).shape.starts) (spec.specifier (spec.inner l.self.room)).read) l.initial.cursor
