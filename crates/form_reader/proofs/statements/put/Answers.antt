use Rattle.std.proofs.Common.{map, refl, codes}
use Rattle.std.proofs.lemmas.Result.{err_from_is_err_and}
use Rattle.form_reader.proofs.Worded.{put_undeclared, put_no_bracket, put_fails, put_no_end, put_read}
use Rattle.form_reader.proofs.statements.put.Goals as goal

pub returns-then-not-putchar : goal.returns-then-not-putchar
returns-then-not-putchar c =
    put_undeclared (map (λ n. n.now) c.args.names.now) c.args.putchar c.args.room (codes "putchar") c.args.line c.args.tokens.now c.args.tokens.now refl c.if-not-putchar.true

pub returns-then-not-takes_mark : goal.returns-then-not-takes_mark
returns-then-not-takes_mark c =
    put_no_bracket (map (λ n. n.now) c.args.names.now) c.args.putchar c.args.room (codes "putchar") c.args.line c.args.tokens.now c.takes_mark.new.tokens refl (c.takes_mark.ensures.no c.if-not-takes_mark.true)

pub returns-in_err-value : goal.returns-in_err-value
returns-in_err-value c =
    let bracket = c.takes_mark.ensures.yes c.if-not-takes_mark.false in
    let p = err_from_is_err_and c.from_residual.result c.from_residual.ensures.1 in
    rw (p.1, p.2) (put_fails (map (λ n. n.now) c.args.names.now) c.args.putchar c.args.room (codes "putchar") c.args.line c.args.tokens.now bracket.0 c.takes_mark.new.tokens bracket.1 c.in_err-value.field-0.0 c.closed.new.tokens refl c.in_err-value.ensures)

pub returns-then-not-takes_mark-2 : goal.returns-then-not-takes_mark-2
returns-then-not-takes_mark-2 c =
    let bracket = c.takes_mark.ensures.yes c.if-not-takes_mark.false in
    put_no_end (map (λ n. n.now) c.args.names.now) c.args.putchar c.args.room (codes "putchar") c.args.line c.args.tokens.now bracket.0 c.takes_mark.new.tokens bracket.1 c.in_ok-value.value c.closed.new.tokens refl c.in_ok-value.ensures c.takes_mark-2.new.tokens (c.takes_mark-2.ensures.no c.if-not-takes_mark-2.true)

pub returns : goal.returns
returns c =
    let bracket = c.takes_mark.ensures.yes c.if-not-takes_mark.false in
    let end = c.takes_mark-2.ensures.yes c.if-not-takes_mark-2.false in
    put_read (map (λ n. n.now) c.args.names.now) c.args.putchar c.args.room (codes "putchar") c.args.line c.args.tokens.now bracket.0 c.takes_mark.new.tokens bracket.1 c.in_ok-value.value c.closed.new.tokens refl c.in_ok-value.ensures end.0 c.takes_mark-2.new.tokens c.requires.some c.if-not-putchar.false end.1
