use Rattle.std.proofs.Common.{◌≡◌, ◌-◌, ◌∷◌, [], length}
use Rattle.c_parts.specs.declared.terminal.Terminal.TheVariants as t
use Rattle.c_parts.specs.Reading.{repeat}
use Rattle.c_parts.specs.Kinds.{has}
use Rattle.c_cursor.specs.Input.{answer}
use Rattle.c_cursor.proofs.Loops.{so_far}
use Rattle.c_syntax.specs.Grammar as spec
use Rattle.c_expr_parser.proofs.pointers.pointers.Given as goal

abbrev pub invariant-pointers : goal.invariant-pointers
invariant-pointers l = so_far (has (t.Star ∷ [])) (spec.pointer).read (length l.initial.cursor.rest - l._turn) l.cursor l.pointers ≡ answer (repeat (has (t.Star ∷ [])) (spec.pointer).read) l.initial.cursor
