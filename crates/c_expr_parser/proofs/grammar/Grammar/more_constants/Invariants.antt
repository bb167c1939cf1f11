use Rattle.std.proofs.Common.{◌≡◌, ◌-◌, ◌∷◌, [], length}
use Rattle.c_parts.specs.declared.terminal.Terminal.TheVariants as t
use Rattle.c_parts.specs.Reading.{repeat, change}
use Rattle.c_parts.specs.Kinds.{has}
use Rattle.c_cursor.specs.Input.{answer}
use Rattle.c_cursor.proofs.Loops.{kept}
use Rattle.c_syntax.specs.Values.{present}
use Rattle.c_syntax.specs.Grammar as spec
use Rattle.c_expr_parser.proofs.grammar.Grammar.more_constants.Given as goal

abbrev pub invariant-more : goal.invariant-more
invariant-more g l = kept present (has (t.Comma ∷ [])) (spec.comma_and (spec.optional_constant (spec.inner l.self.room))).read (length l.initial.cursor.rest - l._turn) l.cursor l.more ≡ answer (change present (repeat (has (t.Comma ∷ [])) (spec.comma_and (spec.optional_constant (spec.inner l.self.room))).read)) l.initial.cursor
