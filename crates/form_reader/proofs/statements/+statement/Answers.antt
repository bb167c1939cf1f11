use Rattle.std.proofs.Common.{◌≡◌, ◌∷◌, map, codes, sym, ap, ◌∙◌, refl, arith, rules}
use Rattle.std.specs.Cmp.Lexicographic.{same_text, other_text}
use Rattle.std.proofs.lemmas.Result.{err_from_is_err_and}
use Rattle.form_reader.specs.Tokens.{lexeme_of}
use Rattle.form_reader.specs.declared.lexemes.Token.{Token}
use Rattle.form_reader.proofs.Worded.{return_fails, return_read, word_no_room, loop_no_bracket, test_fails, body_fails, loop_read}
use Rattle.form_reader.proofs.Blocks.{empty_read, mark_unknown, block_no_room, block_fails, block_not_closed, block_read, stmt_not_twin, stmt_not_end, stmt_shorter, stmts_end, stmts_fail, stmts_more}
use Rattle.form_reader.proofs.statements.+statement.Goals as goal

pub looped-returns-then-not-takes_mark : goal.looped-returns-then-not-takes_mark
looped-returns-then-not-takes_mark t c =
    loop_no_bracket (map (λ n. n.now) c.args.names.now) c.args.putchar c.args.room (codes "while") c.args.line c.args.tokens.now c.takes_mark.new.tokens refl (c.takes_mark.ensures.no c.if-not-takes_mark.true)

pub looped-returns-in_err-test : goal.looped-returns-in_err-test
looped-returns-in_err-test t c =
    let bracket = c.takes_mark.ensures.yes c.if-not-takes_mark.false in
    let p = err_from_is_err_and c.from_residual.result c.from_residual.ensures.1 in
    rw (p.1, p.2) (test_fails (map (λ n. n.now) c.args.names.now) c.args.putchar c.args.room (codes "while") c.args.line c.args.tokens.now bracket.0 c.takes_mark.new.tokens bracket.1 c.in_err-test.field-0.0 c.closed.new.tokens refl c.in_err-test.ensures)

pub looped-returns-in_err-body : goal.looped-returns-in_err-body
looped-returns-in_err-body t c =
    let bracket = c.takes_mark.ensures.yes c.if-not-takes_mark.false in
    let p = err_from_is_err_and c.from_residual-in_err-body.result c.from_residual-in_err-body.ensures.1 in
    rw (p.1, p.2) (body_fails (map (λ n. n.now) c.args.names.now) c.args.putchar c.args.room (codes "while") c.args.line c.args.tokens.now bracket.0 c.takes_mark.new.tokens bracket.1 c.in_ok-test.test c.closed.new.tokens refl c.in_ok-test.ensures c.in_err-body.field-0.0 c.statement.new.tokens c.in_err-body.ensures)

pub looped-returns : goal.looped-returns
looped-returns t c =
    let bracket = c.takes_mark.ensures.yes c.if-not-takes_mark.false in
    let box : c.in_ok-new.field-0 ≡ c.in_ok-body.body = search rules in
    loop_read (map (λ n. n.now) c.args.names.now) c.args.putchar c.args.room (codes "while") c.args.line c.args.tokens.now bracket.0 c.takes_mark.new.tokens bracket.1 c.in_ok-test.test c.closed.new.tokens refl c.in_ok-test.ensures c.in_ok-body.body c.in_ok-new.field-0 c.statement.new.tokens c.requires.some box c.in_ok-body.ensures

pub marked-returns-then-byte-eq59 : goal.marked-returns-then-byte-eq59
marked-returns-then-byte-eq59 t c =
    empty_read (map (λ n. n.now) c.args.names.now) c.args.putchar c.args.room c.args.byte c.args.line c.args.tokens.now c.if-byte-eq59.true

pub marked-returns-then-byte-ne123 : goal.marked-returns-then-byte-ne123
marked-returns-then-byte-ne123 t c =
    mark_unknown (map (λ n. n.now) c.args.names.now) c.args.putchar c.args.room c.args.byte c.args.line c.args.tokens.now c.args.tokens.now c.if-byte-eq59.false c.if-byte-ne123.true

pub marked-returns-then-room-eq0 : goal.marked-returns-then-room-eq0
marked-returns-then-room-eq0 t c =
    block_no_room (map (λ n. n.now) c.args.names.now) c.args.putchar c.args.room c.args.byte c.args.line c.args.tokens.now c.args.tokens.now c.if-byte-eq59.false c.if-room-eq0.true

pub marked-returns-in_err-body : goal.marked-returns-in_err-body
marked-returns-in_err-body t c =
    let p = err_from_is_err_and c.from_residual.result c.from_residual.ensures.1 in
    rw (p.1, p.2) (block_fails (map (λ n. n.now) c.args.names.now) c.args.putchar c.args.room c.args.byte c.args.line c.args.tokens.now c.in_err-body.field-0.0 c.statements.new.tokens c.if-byte-ne123.false c.in_err-body.ensures)

pub marked-returns-then-not-takes_mark : goal.marked-returns-then-not-takes_mark
marked-returns-then-not-takes_mark t c =
    block_not_closed (map (λ n. n.now) c.args.names.now) c.args.putchar c.args.room c.args.byte c.args.line c.args.tokens.now c.in_ok-body.body c.statements.new.tokens c.if-byte-ne123.false c.in_ok-body.ensures c.takes_mark.new.tokens (c.takes_mark.ensures.no c.if-not-takes_mark.true)

pub marked-returns : goal.marked-returns
marked-returns t c =
    let brace = c.takes_mark.ensures.yes c.if-not-takes_mark.false in
    block_read (map (λ n. n.now) c.args.names.now) c.args.putchar c.args.room c.args.byte c.args.line c.args.tokens.now c.in_ok-body.body c.statements.new.tokens c.if-byte-ne123.false c.in_ok-body.ensures c.new.result brace.0 c.takes_mark.new.tokens (omega arith) c.new.ensures brace.1

pub statement-returns-in-Some-Twin : goal.statement-returns-in-Some-Twin
statement-returns-in-Some-Twin t c =
    let at = (c.in-Some-Twin.ensures).found ∙ ap (λ (token : Token). lexeme_of token ∷ c.next.new.self) c.in-Some-Twin.field-0-is in
    stmt_not_twin (map (λ n. n.now) c.args.names.now) c.args.putchar c.args.room c.in-Some-Twin.field-0-0 c.args.tokens.now c.next.new.self c.next.new.self at

pub statement-returns-in-None : goal.statement-returns-in-None
statement-returns-in-None t c =
    stmt_not_end (map (λ n. n.now) c.args.names.now) c.args.putchar c.args.room c.args.tokens.now c.next.new.self (c.in-None.ensures).none.0

pub statements-returns-in_err-next : goal.statements-returns-in_err-next
statements-returns-in_err-next t c =
    let p = err_from_is_err_and c.from_residual.result c.from_residual.ensures.1 in
    rw (p.1, p.2) (stmts_fail (map (λ n. n.now) c.args.names.now) c.args.putchar c.args.room c.args.tokens.now c.loop-alloc.tokens c.loop-alloc.list c.loop-alloc.invariant (c.is_at_brace.ensures.no c.loop-alloc-test.true) c.in_err-next.field-0.0 c.statement.new.tokens c.in_err-next.ensures)

pub statements-loop-alloc-smaller : goal.statements-loop-alloc-smaller
statements-loop-alloc-smaller t c =
    let found = c.in_ok-next.ensures.found in
    stmt_shorter (map (λ n. n.now) c.args.names.now) c.args.putchar c.args.room c.in_ok-next.next c.loop-alloc.tokens found.0 c.statement.new.tokens found.1 found.2

pub statements-loop-alloc-preserved : goal.statements-loop-alloc-preserved
statements-loop-alloc-preserved t c =
    rw c.in_ok-push.ensures.ok (stmts_more (map (λ n. n.now) c.args.names.now) c.args.putchar c.args.room c.args.tokens.now c.loop-alloc.tokens c.loop-alloc.list c.loop-alloc.invariant (c.is_at_brace.ensures.no c.loop-alloc-test.true) c.in_ok-next.next c.statement.new.tokens c.in_ok-next.ensures)

pub statements-returns : goal.statements-returns
statements-returns t c =
    let brace = c.is_at_brace.ensures.yes c.loop-alloc-test.false in
    stmts_end (map (λ n. n.now) c.args.names.now) c.args.putchar c.args.room c.args.tokens.now c.loop-alloc.tokens c.loop-alloc.list c.loop-alloc.invariant brace.0 brace.1 brace.2

pub worded-returns-in_err-value : goal.worded-returns-in_err-value
worded-returns-in_err-value t c =
    let word = same_text c.args.word.now c.as_slice.result.now c.if-eq.ensures ∙ c.as_slice.ensures in
    let p = err_from_is_err_and c.from_residual.result c.from_residual.ensures.1 in
    rw (p.1, p.2) (return_fails (map (λ n. n.now) c.args.names.now) c.args.putchar c.args.room c.args.word.now c.args.line c.args.tokens.now c.in_err-value.field-0.0 c.closed.new.tokens word c.in_err-value.ensures)

pub worded-returns-then-eq : goal.worded-returns-then-eq
worded-returns-then-eq t c =
    let word = same_text c.args.word.now c.as_slice.result.now c.if-eq.ensures ∙ c.as_slice.ensures in
    return_read (map (λ n. n.now) c.args.names.now) c.args.putchar c.args.room c.args.word.now c.args.line c.args.tokens.now c.in_ok-value.value c.closed.new.tokens word c.in_ok-value.ensures

pub worded-returns-then-room-eq0 : goal.worded-returns-then-room-eq0
worded-returns-then-room-eq0 t c =
    word_no_room (map (λ n. n.now) c.args.names.now) c.args.putchar c.args.room c.args.word.now c.args.line c.args.tokens.now c.args.tokens.now c.if-room-eq0.true (λ same. other_text c.args.word.now c.as_slice.result.now c.if-eq.ensures (same ∙ sym c.as_slice.ensures))

pub worded-returns : goal.worded-returns
worded-returns t c =
    c.assigned.ensures c.args.putchar
