use Rattle.std.proofs.Common.{◌≡◌, ◌-◌, ◌∷◌, [], length}
use Rattle.c_parts.specs.declared.terminal.Terminal.TheVariants as t
use Rattle.c_parts.specs.Reading.{change, times, repeat}
use Rattle.c_parts.specs.Kinds.{has}
use Rattle.c_parts.specs.Production.{sign}
use Rattle.c_cursor.specs.Input.{answer}
use Rattle.c_expr_parser.proofs.expressions.more_texts.Given as goal

abbrev pub invariant-texts : goal.invariant-texts
invariant-texts l =
    answer (change (λ x. tt {0}) (times (has (t.Text ∷ [])) (sign t.Text).read (length l.initial.cursor.rest - l._turn))) l.cursor
    ≡ answer (change (λ x. tt {0}) (repeat (has (t.Text ∷ [])) (sign t.Text).read)) l.initial.cursor
