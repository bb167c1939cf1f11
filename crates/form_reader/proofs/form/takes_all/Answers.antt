use Rattle.std.proofs.Common.{sym, ◌∙◌, add-one}
use Rattle.form_reader.proofs.Fronts.{next_stands, taken_more}
use Rattle.form_reader.proofs.form.takes_all.Goals as goal

pub returns-then-not-takes-clause-no : goal.returns-then-not-takes-clause-no
returns-then-not-takes-clause-no c failed front rest stand texts =
    let so = c.loop-text.invariant in
    let next = next_stands (λ text. text.now) c.args.texts.now _ c.loop-text.text-index so.0 c.loop-text.tokens front rest c.loop-text-test.true so.2 (sym so.1 ∙ stand) texts in
    c.takes.ensures.no c.if-not-takes.true next.0 next.1 next.2 next.3

pub loop-text-preserved : goal.loop-text-preserved
loop-text-preserved c =
    let so = c.loop-text.invariant in
    let one = c.takes.ensures.yes c.if-not-takes.false in
    rw add-one (taken_more (λ text. text.now) c.args.texts.now _ c.loop-text.text-index so.0 c.takes.new.tokens c.args.tokens.now c.loop-text.tokens one.0 c.loop-text-test.true so.2 so.1 one.1 one.2)
