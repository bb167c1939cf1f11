-- The types of a statement's parts come in their order.
use Rattle.std.proofs.Common.{◌≡◌, ◌++◌, sym, ap, ◌∙◌, subst}
use Rattle.std.specs.Prelude.{fold, OnOk}
use Rattle.c_objects.specs.Calls.{statement_kinds}
use Rattle.c_file_rules.specs.Kinds.{expr_kinds, stmt_kinds, with_kind}
use Rattle.c_objects.proofs.KindViews.{block_kinds, if_kinds, loop_kinds, switch_kinds, two_on, three_on}
use Rattle.c_objects.proofs.kinded.+statements.Goals as goal

pub add_stmt-returns-in-Block : goal.add_stmt-returns-in-Block
add_stmt-returns-in-Block t c =
    let all = ap statement_kinds c.as_slice.ensures ∙ sym (block_kinds c.in-Block.locals c.in-Block.body) ∙ ap stmt_kinds (sym c.in-Block.is) in
    subst (λ ks. OnOk c.add_stmts.result (c.add_stmts.new.kinds ≡ fold with_kind c.args.kinds.now ks)) all c.add_stmts.ensures

pub add_stmt-returns-in_ok-add_stmt-in-If-2 : goal.add_stmt-returns-in_ok-add_stmt-in-If-2
add_stmt-returns-in_ok-add_stmt-in-If-2 t c =
    let test = c.in-If.test in
    let one = c.get.result.now in
    let all = ap stmt_kinds c.in-If.is ∙ if_kinds c.in-If.line test c.in-If.then c.in-If.otherwise
    ∙ ap (λ x. expr_kinds test ++ stmt_kinds x ++ stmt_kinds c.in-If.otherwise) (sym c.get.ensures)
    ∙ ap (λ x. expr_kinds test ++ stmt_kinds one ++ stmt_kinds x) (sym c.get-in-If.ensures) in
    three_on with_kind c.args.kinds.now c.add_expr-in-If.new.kinds c.add_stmt.new.kinds c.add_stmt-in-If.new.kinds
    (expr_kinds test) (stmt_kinds one) (stmt_kinds c.get-in-If.result.now) (stmt_kinds c.args.statement.now)
    all c.in_ok-add_expr-in-If.ensures c.in_ok-add_stmt-in-If.ensures c.in_ok-add_stmt-in-If-2.ensures

pub add_stmt-returns-in_ok-add_stmt-in-Loop-2 : goal.add_stmt-returns-in_ok-add_stmt-in-Loop-2
add_stmt-returns-in_ok-add_stmt-in-Loop-2 t c =
    let body = c.get-in-Loop.result.now in
    let all = ap stmt_kinds c.in-Loop.is ∙ loop_kinds c.in-Loop.line c.in-Loop.body c.in-Loop.next
    ∙ ap (λ x. stmt_kinds x ++ stmt_kinds c.in-Loop.next) (sym c.get-in-Loop.ensures)
    ∙ ap (λ x. stmt_kinds body ++ stmt_kinds x) (sym c.get-in-Loop-2.ensures) in
    two_on with_kind c.args.kinds.now c.add_stmt-in-Loop.new.kinds c.add_stmt-in-Loop-2.new.kinds
    (stmt_kinds body) (stmt_kinds c.get-in-Loop-2.result.now) (stmt_kinds c.args.statement.now)
    all c.in_ok-add_stmt-in-Loop.ensures c.in_ok-add_stmt-in-Loop-2.ensures

pub add_stmt-returns-in_ok-add_stmts-in-Switch : goal.add_stmt-returns-in_ok-add_stmts-in-Switch
add_stmt-returns-in_ok-add_stmts-in-Switch t c =
    let value = c.in-Switch.value in
    let all = ap stmt_kinds c.in-Switch.is ∙ switch_kinds c.in-Switch.line value c.in-Switch.cases c.in-Switch.other c.in-Switch.body
    ∙ ap (λ l. expr_kinds value ++ statement_kinds l) (sym c.as_slice-in-Switch.ensures) in
    two_on with_kind c.args.kinds.now c.add_expr-in-Switch.new.kinds c.add_stmts-in-Switch.new.kinds
    (expr_kinds value) (statement_kinds c.as_slice-in-Switch.result.now) (stmt_kinds c.args.statement.now)
    all c.in_ok-add_expr-in-Switch.ensures c.in_ok-add_stmts-in-Switch.ensures
