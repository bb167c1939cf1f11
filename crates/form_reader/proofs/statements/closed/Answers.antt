use Rattle.std.proofs.Common.{map}
use Rattle.std.proofs.lemmas.Result.{err_from_is_err_and}
use Rattle.form_reader.proofs.Worded.{closed_fails, closed_read, closed_open}
use Rattle.form_reader.proofs.statements.closed.Goals as goal

pub returns-in_err-value : goal.returns-in_err-value
returns-in_err-value c =
    let p = err_from_is_err_and c.from_residual.result c.from_residual.ensures.1 in
    rw (p.1, p.2) (closed_fails (map (λ n. n.now) c.args.names.now) c.args.room c.args.mark c.requires.mark c.args.tokens.now c.expression.new.tokens c.in_err-value.field-0.0 c.in_err-value.ensures)

pub returns-then-takes_mark : goal.returns-then-takes_mark
returns-then-takes_mark c =
    let mark = c.takes_mark.ensures.yes c.if-takes_mark.true in
    closed_read (map (λ n. n.now) c.args.names.now) c.args.room c.args.mark c.requires.mark c.args.tokens.now c.expression.new.tokens c.in_ok-value.value c.takes_mark.new.tokens mark.0 c.in_ok-value.ensures mark.1

pub returns : goal.returns
returns c =
    closed_open (map (λ n. n.now) c.args.names.now) c.args.room c.args.mark c.requires.mark c.args.tokens.now c.expression.new.tokens c.in_ok-value.value c.takes_mark.new.tokens c.in_ok-value.ensures (c.takes_mark.ensures.no c.if-takes_mark.false)
