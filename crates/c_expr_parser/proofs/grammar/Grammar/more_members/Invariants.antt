use Rattle.std.proofs.Common.{◌≡◌, ◌-◌, length}
use Rattle.c_parts.specs.Reading.{repeat}
use Rattle.c_parts.specs.Kinds.{has}
use Rattle.c_cursor.specs.Input.{answer}
use Rattle.c_cursor.proofs.Loops.{so_far}
use Rattle.c_syntax.specs.Grammar as spec
use Rattle.c_expr_parser.proofs.grammar.Grammar.more_members.Given as goal

abbrev pub invariant-more : goal.invariant-more
invariant-more g l = so_far (has (spec.member (spec.inner l.self.room)).shape.starts) (spec.member (spec.inner l.self.room)).read (length l.initial.cursor.rest - l._turn) l.cursor l.more ≡ answer (repeat (has (spec.member (spec.inner l.self.room)).shape.starts) (spec.member (spec.inner l.self.room)).read) l.initial.cursor
