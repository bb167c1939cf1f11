use Rattle.std.proofs.Common.{◌<◌, ◌∷◌, [], length, sym, subst}
use Rattle.c_parts.specs.declared.terminal.Terminal.TheVariants as t
use Rattle.c_parts.specs.Reading.{change, repeat}
use Rattle.c_parts.specs.Kinds.{has}
use Rattle.c_parts.specs.Production.{sign}
use Rattle.c_cursor.specs.Input.{answer}
use Rattle.c_cursor.proofs.Loops.{skip_on}
use Rattle.c_expr_parser.proofs.expressions.more_texts.Goals as goal

pub texts-preserved : goal.texts-preserved
texts-preserved c =
    skip_on (has (t.Text ∷ [])) (sign t.Text).read (length c.args.cursor.now.rest) c.texts._turn c.texts.cursor c.sign.new.self tt
    (answer (change (λ x. tt {0}) (repeat (has (t.Text ∷ [])) (sign t.Text).read)) c.args.cursor.now)
    (subst (λ n. c.texts._turn < n) c.remaining-turn-end.ensures c.texts-test.true) c.texts.invariant (sym c.if-not-next_is.ensures) c.in_ok-sign.ensures
