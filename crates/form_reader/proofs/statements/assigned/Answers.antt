use Rattle.std.proofs.Common.{◌≡◌, map, sym, ◌∙◌, rules}
use Rattle.std.specs.Prelude.{Some, None, position}
use Rattle.std.specs.Str.{bytes_eq}
use Rattle.std.proofs.lemmas.Result.{err_from_is_err_and}
use Rattle.form_reader.proofs.Worded.{assign_unknown, assign_no_sign, assign_fails, assign_read}
use Rattle.form_reader.proofs.statements.assigned.Goals as goal

pub returns-in_default : goal.returns-in_default
returns-in_default c putchar =
    let none : position (λ name. bytes_eq name c.args.name.now) (map (λ n. n.now) c.args.names.now) ≡ None = search rules in
    assign_unknown (map (λ n. n.now) c.args.names.now) putchar c.args.room c.args.name.now c.args.line c.args.tokens.now c.args.tokens.now c.requires.name none

pub returns-then-not-takes_mark : goal.returns-then-not-takes_mark
returns-then-not-takes_mark c putchar =
    assign_no_sign (map (λ n. n.now) c.args.names.now) putchar c.args.room c.args.name.now c.args.line c.args.tokens.now c.takes_mark.new.tokens c.requires.name (c.takes_mark.ensures.no c.if-not-takes_mark.true)

pub returns-in_err-value : goal.returns-in_err-value
returns-in_err-value c putchar =
    let sign = c.takes_mark.ensures.yes c.if-not-takes_mark.false in
    let p = err_from_is_err_and c.from_residual.result c.from_residual.ensures.1 in
    rw (p.1, p.2) (assign_fails (map (λ n. n.now) c.args.names.now) putchar c.args.room c.args.name.now c.args.line c.args.tokens.now c.in_err-value.field-0.0 sign.0 c.takes_mark.new.tokens c.closed.new.tokens c.requires.name sign.1 c.in_err-value.ensures)

pub returns : goal.returns
returns c putchar =
    let sign = c.takes_mark.ensures.yes c.if-not-takes_mark.false in
    let known : position (λ name. bytes_eq name c.args.name.now) (map (λ n. n.now) c.args.names.now) ≡ Some c.in-Some.local = sym c.place_of.ensures.place ∙ c.in-Some.is in
    assign_read (map (λ n. n.now) c.args.names.now) putchar c.args.room c.args.name.now c.args.line c.args.tokens.now c.in-Some.local c.in_ok-value.value sign.0 c.takes_mark.new.tokens c.closed.new.tokens c.requires.some c.requires.name known sign.1 c.in_ok-value.ensures
