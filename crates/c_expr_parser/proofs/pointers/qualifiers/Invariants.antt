use Rattle.std.proofs.Common.{◌≡◌, ◌-◌, length}
use Rattle.c_parts.specs.Reading.{repeat}
use Rattle.c_parts.specs.Kinds.{has}
use Rattle.c_cursor.specs.Input.{answer}
use Rattle.c_cursor.proofs.Loops.{so_far}
use Rattle.c_syntax.specs.Grammar as spec
use Rattle.c_expr_parser.proofs.pointers.qualifiers.Given as goal

abbrev pub invariant-qualifiers : goal.invariant-qualifiers
invariant-qualifiers l = so_far (has spec.qualifier.shape.starts) (spec.qualifier).read (length l.initial.cursor.rest - l._turn) l.cursor l.qualifiers ≡ answer (repeat (has spec.qualifier.shape.starts) (spec.qualifier).read) l.initial.cursor
