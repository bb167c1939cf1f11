use Rattle.std.proofs.Common.{arith, length, ap, sym, ◌∙◌, Some}
use Rattle.std.proofs.lemmas.Bool.{eqb-true}
use Rattle.c_lexer.proofs.Quotes.{character_empty, character_none, character_one, character_more}
use Rattle.c_lexer.proofs.quoted.read_character.Goals as goal

pub returns-then-is_empty : goal.returns-then-is_empty
returns-then-is_empty c = character_empty c.args.text.now c.body-body.result.now c.body-body.ensures (eqb-true (length c.body-body.result.now) 0 (sym c.if-is_empty.ensures))

pub returns-in_err-e : goal.returns-in_err-e
returns-in_err-e c =
    c.from_residual.ensures ∙ character_none c.args.text.now c.body-body.result.now c.body-body.ensures (omega (arith, c.split_at.ensures.back_len)) (rw c.split_at.ensures.back at c.in_err-e.ensures.value)

pub returns-then-e-body : goal.returns-then-e-body
returns-then-e-body c =
    ap Some c.signed_char.ensures ∙ character_one c.args.text.now c.body-body.result.now c.in_ok-e.e c.body-body.ensures (omega (arith, c.split_at.ensures.back_len)) c.in_ok-e.ensures.within.0 (rw c.split_at.ensures.back at c.in_ok-e.ensures.value) c.if-e-body.true

pub returns-else-e-body : goal.returns-else-e-body
returns-else-e-body c =
    character_more c.args.text.now c.body-body.result.now c.in_ok-e.e c.body-body.ensures c.in_ok-e.ensures.within.0 (rw c.split_at.ensures.back at c.in_ok-e.ensures.value) (omega (arith, c.in_ok-e.ensures.within.1, c.split_at.ensures.back_len))
