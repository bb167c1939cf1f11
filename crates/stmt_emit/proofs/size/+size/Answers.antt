-- The sizes of a statement's parts are added up.
use Rattle.std.proofs.Common.{◌≡◌, ◌+◌, sym, ap, ◌∙◌, subst, IfOk, arith}
use Rattle.expr_gen.specs.Code.{branch_size, expr_size}
use Rattle.stmt_gen.specs.Code.{locals_size, cases_size, stmt_size}
use Rattle.stmt_emit.specs.Lists.{statements_size}
use Rattle.stmt_emit.proofs.Views.{block_size, if_size, loop_size, switch_size}
use Rattle.stmt_emit.proofs.size.+size.Goals as goal

pub size_of_stmt-returns-in_ok-size-in-Block : goal.size_of_stmt-returns-in_ok-size-in-Block
size_of_stmt-returns-in_ok-size-in-Block t c =
    let whole = ap stmt_size c.in-Block.is ∙ block_size c.in-Block.locals c.in-Block.body in
    omega (
      arith,
      whole,
      ap locals_size c.as_slice.ensures,
      ap statements_size c.as_slice-in-Block.ensures,
      c.in_ok-locals-in-Block.ensures,
      c.in_ok-size_of_statements-in-Block.ensures,
      c.in_ok-size-in-Block.ensures,
    )

pub size_of_stmt-returns-in-If : goal.size_of_stmt-returns-in-If
size_of_stmt-returns-in-If t c =
    let test = c.in-If.test in
    let one = c.in-If.then in
    let other = c.in-If.otherwise in
    let same =
    ap (λ s. branch_size (expr_size test) (stmt_size s) (stmt_size c.get-in-If.result.now)) c.get.ensures
    ∙ ap (λ s. branch_size (expr_size test) (stmt_size one) (stmt_size s)) c.get-in-If.ensures
    ∙ sym (if_size c.in-If.line test one other) ∙ ap stmt_size (sym c.in-If.is) in
    subst (λ k. IfOk c.size_of_if.result (λ n. n ≡ k)) same c.size_of_if.ensures

pub size_of_stmt-returns-in_ok-size-in-Loop : goal.size_of_stmt-returns-in_ok-size-in-Loop
size_of_stmt-returns-in_ok-size-in-Loop t c =
    let whole = ap stmt_size c.in-Loop.is ∙ loop_size c.in-Loop.line c.in-Loop.body c.in-Loop.next in
    omega (
      arith,
      whole,
      ap stmt_size c.get-in-Loop.ensures,
      ap stmt_size c.get-in-Loop-2.ensures,
      c.in_ok-body-in-Loop.ensures,
      c.in_ok-next-in-Loop.ensures,
      c.in_ok-sum-in-Loop.ensures,
      c.in_ok-size-in-Loop.ensures,
    )

pub size_of_stmt-returns-in-Switch : goal.size_of_stmt-returns-in-Switch
size_of_stmt-returns-in-Switch t c =
    let value = c.in-Switch.value in
    let cases = c.in-Switch.cases in
    let body = c.in-Switch.body in
    let same =
    ap (λ l. expr_size value + cases_size l + 1 + statements_size c.as_slice-in-Switch-2.result.now) c.as_slice-in-Switch.ensures
    ∙ ap (λ l. expr_size value + cases_size cases + 1 + statements_size l) c.as_slice-in-Switch-2.ensures
    ∙ sym (switch_size c.in-Switch.line value cases c.in-Switch.other body) ∙ ap stmt_size (sym c.in-Switch.is) in
    subst (λ k. IfOk c.size_of_switch.result (λ n. n ≡ k)) same c.size_of_switch.ensures
