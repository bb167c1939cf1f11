-- The value's code comes before the return.
use Rattle.expr_emit.proofs.Tails.{on_ok}
use Rattle.stmt_emit.proofs.Puts.{return_put}
use Rattle.stmt_emit.proofs.statement.emit_return.Goals as goal

pub returns-in_ok-put-in-Some : goal.returns-in_ok-put-in-Some
returns-in_ok-put-in-Some c =
    let p = c.args.inside.place in
    on_ok c.emit_expression.result _ _
    (return_put p.library c.args.line p.t c.args.value.now c.in-Some.value c.args.tail.now c.put-in-Some.new.tail c.emit_expression.new.tail
    c.in-Some.is c.in_ok-put-in-Some.ensures)
    c.emit_expression.ensures
