-- The test's code comes before the jump.
use Rattle.std.proofs.Common.{refl}
use Rattle.c_tree.specs.declared.stmt.Stmt.{BreakUnless}
use Rattle.expr_emit.proofs.Tails.{on_ok}
use Rattle.stmt_emit.specs.Lists.{exits_of}
use Rattle.stmt_emit.proofs.Puts.{break_unless_put}
use Rattle.stmt_emit.proofs.statement.emit_break_unless.Goals as goal

pub returns : goal.returns
returns c =
    let p = c.args.inside.place in
    let test = c.args.test.now in
    on_ok c.emit_expression.result _ _
    (break_unless_put p.library p.t (BreakUnless c.args.line test) (exits_of c.args.inside.exits) c.args.line test c.args.tail.now c.put.new.tail
    c.emit_expression.new.tail refl c.in_ok-put.ensures)
    c.emit_expression.ensures
