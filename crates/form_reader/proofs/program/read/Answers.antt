use Rattle.std.proofs.Common.{List, arith, sym, subst, ◌∙◌, true, false}
use Rattle.form_reader.specs.Lexemes.{Lexeme}
use Rattle.form_reader.specs.Form.{HasForm, IsMain}
use Rattle.form_reader.proofs.Mains.{form_with, form_without, main_with, main_without, ok_map}
use Rattle.form_reader.proofs.program.read.Goals as goal

pub returns-clause-only : goal.returns-clause-only
returns-clause-only c program h =
    c.main_function-2.ensures.only program (subst (λ (x : List Lexeme). IsMain false program x) (sym c.new-whole.ensures) (main_without c.args.file.now program (λ front rest spelled texts. c.takes_all.ensures.no c.if-takes_all.false front rest (c.new-tokens.ensures ∙ spelled) texts) h))

pub returns-then-takes_all-clause-only : goal.returns-then-takes_all-clause-only
returns-then-takes_all-clause-only c program h =
    let intro = c.takes_all.ensures.yes c.if-takes_all.true in
    c.main_function.ensures.only program (main_with c.args.file.now program intro.0 c.takes_all.new.tokens (sym c.new-tokens.ensures ∙ intro.1) intro.2 h)

pub returns-then-takes_all-clause-found : goal.returns-then-takes_all-clause-found
returns-then-takes_all-clause-found c =
    let intro = c.takes_all.ensures.yes c.if-takes_all.true in
    ok_map c.main_function.result (λ p. IsMain true p c.takes_all.new.tokens) (λ p. HasForm c.args.file.now p) c.main_function.ensures.found
    (λ p is. form_with c.args.file.now p intro.0 c.takes_all.new.tokens (omega (arith, c.if-file-gt-MOST_BYTES.false)) (sym c.new-tokens.ensures ∙ intro.1) intro.2 is)

pub returns-clause-found : goal.returns-clause-found
returns-clause-found c =
    ok_map c.main_function-2.result (λ p. IsMain false p c.new-whole.result) (λ p. HasForm c.args.file.now p) c.main_function-2.ensures.found
    (λ p is. form_without c.args.file.now p (omega (arith, c.if-file-gt-MOST_BYTES.false)) (subst (λ (x : List Lexeme). IsMain false p x) c.new-whole.ensures is))
