use Rattle.std.proofs.Common.{◌≡◌, ◌-◌, suc, [], ◌∷◌, map, ap, ◌∙◌, arith, rules, add-one}
use Rattle.std.specs.Prelude.{Ok, Err, Some}
use Rattle.std.proofs.lemmas.Result.{err_from_is_err_and}
use Rattle.std.proofs.lemmas.Bool.{both_ways}
use Rattle.filc_num.specs.declared.integer.IntType.TheVariants.{I32}
use Rattle.form_tree.specs.declared.expr.Expr.{Expr}
use Rattle.form_tree.specs.declared.expr.Link.{Link, Link-F, roll-Link, out-roll-Link}
use Rattle.form_reader.specs.Tokens.{lexeme_of}
use Rattle.form_reader.specs.declared.lexemes.Token.{Token}
use Rattle.form_reader.specs.Grammar.{IsOfRank, IsPrefix, operator_of}
use Rattle.form_reader.specs.Reading.{HasNoOperator}
use Rattle.form_reader.proofs.Composed.{rank_zero, rank_more, first_fails, links_failed, one_operand, several_operands, links_start, links_fail, links_more, links_end, no_room, no_prefix, brackets_fail, brackets_read, brackets_open, minus_fails, minus_read, run_read, twin_read, end_read, taken_behind}
use Rattle.form_reader.proofs.expressions.+expression.Goals as goal

pub expression-returns-then-rank-eq-PREFIX : goal.expression-returns-then-rank-eq-PREFIX
expression-returns-then-rank-eq-PREFIX t c =
    rank_zero (map (λ n. n.now) c.args.names.now) c.args.room c.args.rank c.prefixed.result c.args.tokens.now c.prefixed.new.tokens c.if-rank-eq-PREFIX.true c.prefixed.ensures

pub expression-returns-in_err-first : goal.expression-returns-in_err-first
expression-returns-in_err-first t c =
    let p = err_from_is_err_and c.from_residual.result c.from_residual.ensures.1 in
    rw (p.1, p.2) (rank_more (map (λ n. n.now) c.args.names.now) c.args.room c.args.rank (Err c.in_err-first.field-0.0) c.args.tokens.now c.expression.new.tokens (omega arith)
    (first_fails (map (λ n. n.now) c.args.names.now) c.args.room (c.args.rank - 1) c.args.tokens.now c.expression.new.tokens c.in_err-first.field-0.0 c.in_err-first.ensures))

pub expression-returns-in_err-links : goal.expression-returns-in_err-links
expression-returns-in_err-links t c =
    let p = err_from_is_err_and c.from_residual-in_err-links.result c.from_residual-in_err-links.ensures.1 in
    rw (p.1, p.2) (rank_more (map (λ n. n.now) c.args.names.now) c.args.room c.args.rank (Err c.in_err-links.field-0.0) c.args.tokens.now c.links.new.tokens (omega arith)
    (links_failed (map (λ n. n.now) c.args.names.now) c.args.room (c.args.rank - 1) c.args.tokens.now c.expression.new.tokens c.in_ok-first.first c.in_ok-first.ensures c.in_err-links.field-0.0 c.links.new.tokens c.in_err-links.ensures))

pub expression-returns-then-is_empty : goal.expression-returns-then-is_empty
expression-returns-then-is_empty t c =
    let none : c.in_ok-links.links ≡ [] = search rules in
    rank_more (map (λ n. n.now) c.args.names.now) c.args.room c.args.rank (Ok c.in_ok-first.first) c.args.tokens.now c.links.new.tokens (omega arith)
    (one_operand (map (λ n. n.now) c.args.names.now) c.args.room (c.args.rank - 1) c.args.tokens.now c.expression.new.tokens c.in_ok-first.first c.in_ok-first.ensures c.in_ok-links.links c.links.new.tokens none c.in_ok-links.ensures)

pub expression-returns : goal.expression-returns
expression-returns t c =
    let box : c.in_ok-new.field-0 ≡ c.in_ok-first.first = search rules in
    rank_more (map (λ n. n.now) c.args.names.now) c.args.room c.args.rank _ c.args.tokens.now c.links.new.tokens (omega arith)
    (several_operands (map (λ n. n.now) c.args.names.now) c.args.room (c.args.rank - 1) c.args.tokens.now c.expression.new.tokens c.in_ok-first.first c.in_ok-first.ensures c.in_ok-new.field-0 c.line-line.result c.in_ok-links.links c.links.new.tokens box c.line-line.ensures (λ none. both_ways c.is_empty.result c.if-is_empty.false (c.is_empty.ensures.1 none)) c.in_ok-links.ensures)

pub links-loop-op-init : goal.links-loop-op-init
links-loop-op-init t c =
    links_start c.args.below (IsOfRank c.args.below (IsPrefix (map (λ n. n.now) c.args.names.now) c.args.room)) c.args.tokens.now c.new-links.result c.new-links.ensures

pub links-returns-in_err-operand : goal.links-returns-in_err-operand
links-returns-in_err-operand t c =
    let found = c.in-Some.ensures.found in
    let op_is : operator_of (suc c.args.below) found.0 ≡ Some c.in-Some.op = rw add-one at found.4 in
    let p = err_from_is_err_and c.from_residual.result c.from_residual.ensures.1 in
    rw (p.1, p.2) (links_fail c.args.below (IsOfRank c.args.below (IsPrefix (map (λ n. n.now) c.args.names.now) c.args.room)) c.args.tokens.now c.loop-op.tokens c.loop-op.links c.in_err-operand.field-0.0 c.next.new.self c.expression.new.tokens found.0 found.1 c.in-Some.op
    (taken_behind c.next.result c.loop-op.tokens c.next.new.self found.0 found.1 found.2 c.next.ensures.found c.next.ensures.none found.3) op_is c.in_err-operand.ensures c.loop-op.invariant)

pub links-loop-op-preserved : goal.links-loop-op-preserved
links-loop-op-preserved t c =
    let found = c.in-Some.ensures.found in
    let op_is : operator_of (suc c.args.below) found.0 ≡ Some c.in-Some.op = rw add-one at found.4 in
    let parts : Link-F Expr Link = record { op = c.in-Some.op; ty = I32; operand = c.in_ok-operand.operand } in
    rw c.in_ok-push.ensures.ok (links_more c.args.below (IsOfRank c.args.below (IsPrefix (map (λ n. n.now) c.args.names.now) c.args.room)) c.args.tokens.now c.loop-op.tokens c.loop-op.links c.in_ok-operand.operand (roll-Link parts) c.next.new.self c.expression.new.tokens found.0 found.1 c.in-Some.op
    (taken_behind c.next.result c.loop-op.tokens c.next.new.self found.0 found.1 found.2 c.next.ensures.found c.next.ensures.none found.3) op_is c.in_ok-operand.ensures
    (ap (λ (l : Link-F Expr Link). l.op) (out-roll-Link parts)) (ap (λ (l : Link-F Expr Link). l.ty) (out-roll-Link parts)) (ap (λ (l : Link-F Expr Link). l.operand) (out-roll-Link parts)) c.loop-op.invariant)

pub links-returns : goal.links-returns
links-returns t c =
    let none : HasNoOperator (suc c.args.below) c.loop-op.tokens = rw add-one at c.in_default.ensures.none in
    links_end c.args.below (IsOfRank c.args.below (IsPrefix (map (λ n. n.now) c.args.names.now) c.args.room)) c.args.tokens.now c.loop-op.tokens c.loop-op.links none c.loop-op.invariant

pub marked-returns-then-room-eq0 : goal.marked-returns-then-room-eq0
marked-returns-then-room-eq0 t c =
    no_room (map (λ n. n.now) c.args.names.now) c.args.room c.args.byte c.args.line c.args.tokens.now c.args.tokens.now c.if-room-eq0.true

pub marked-returns-in_err-inner : goal.marked-returns-in_err-inner
marked-returns-in_err-inner t c =
    let p = err_from_is_err_and c.from_residual.result c.from_residual.ensures.1 in
    rw (p.1, p.2) (brackets_fail (map (λ n. n.now) c.args.names.now) c.args.room c.args.byte c.args.line c.args.tokens.now c.in_err-inner.field-0.0 c.expression.new.tokens c.if-byte-eq40.true c.in_err-inner.ensures)

pub marked-returns-then-takes_mark : goal.marked-returns-then-takes_mark
marked-returns-then-takes_mark t c =
    let closed = c.takes_mark.ensures.yes c.if-takes_mark.true in
    brackets_read (map (λ n. n.now) c.args.names.now) c.args.room c.args.byte c.args.line c.args.tokens.now c.in_ok-inner.inner c.expression.new.tokens c.takes_mark.new.tokens closed.0 (omega arith) c.if-byte-eq40.true c.in_ok-inner.ensures closed.1

pub marked-returns-then-byte-eq40 : goal.marked-returns-then-byte-eq40
marked-returns-then-byte-eq40 t c =
    brackets_open (map (λ n. n.now) c.args.names.now) c.args.room c.args.byte c.args.line c.args.tokens.now c.in_ok-inner.inner c.expression.new.tokens c.takes_mark.new.tokens c.if-byte-eq40.true c.in_ok-inner.ensures (c.takes_mark.ensures.no c.if-takes_mark.false)

pub marked-returns-in_err-operand : goal.marked-returns-in_err-operand
marked-returns-in_err-operand t c =
    let p = err_from_is_err_and c.from_residual-in_err-operand.result c.from_residual-in_err-operand.ensures.1 in
    rw (p.1, p.2) (minus_fails (map (λ n. n.now) c.args.names.now) c.args.room c.args.byte c.args.line c.args.tokens.now c.in_err-operand.field-0.0 c.prefixed.new.tokens c.if-byte-eq45.true c.in_err-operand.ensures)

pub marked-returns-then-byte-eq45 : goal.marked-returns-then-byte-eq45
marked-returns-then-byte-eq45 t c =
    let box : c.in_ok-new.field-0 ≡ c.in_ok-operand.operand = search rules in
    minus_read (map (λ n. n.now) c.args.names.now) c.args.room c.args.byte c.args.line c.args.tokens.now c.in_ok-operand.operand c.in_ok-new.field-0 c.prefixed.new.tokens (omega arith) c.if-byte-eq45.true box c.in_ok-operand.ensures

pub marked-returns : goal.marked-returns
marked-returns t c =
    no_prefix (map (λ n. n.now) c.args.names.now) c.args.room c.args.byte c.args.line c.args.tokens.now c.args.tokens.now c.if-byte-eq40.false c.if-byte-eq45.false

pub prefixed-returns-in-Some-Run : goal.prefixed-returns-in-Some-Run
prefixed-returns-in-Some-Run t c =
    let at = (c.in-Some-Run.ensures).found ∙ ap (λ (token : Token). lexeme_of token ∷ c.next.new.self) c.in-Some-Run.field-0-is in
    rw c.ok_or.ensures.value (run_read (map (λ n. n.now) c.args.names.now) c.args.room c.args.tokens.now c.next.new.self c.leaf.result c.in-Some-Run.bytes.now c.in-Some-Run.line at c.leaf.ensures.found c.leaf.ensures.only c.leaf.ensures.none)

pub prefixed-returns-in-Some-Twin : goal.prefixed-returns-in-Some-Twin
prefixed-returns-in-Some-Twin t c =
    let at = (c.in-Some-Twin.ensures).found ∙ ap (λ (token : Token). lexeme_of token ∷ c.next.new.self) c.in-Some-Twin.field-0-is in
    twin_read (map (λ n. n.now) c.args.names.now) c.args.room c.args.tokens.now c.next.new.self c.in-Some-Twin.field-0-0 at

pub prefixed-returns-in-None : goal.prefixed-returns-in-None
prefixed-returns-in-None t c =
    end_read (map (λ n. n.now) c.args.names.now) c.args.room c.args.tokens.now c.next.new.self (c.in-None.ensures).none.0
