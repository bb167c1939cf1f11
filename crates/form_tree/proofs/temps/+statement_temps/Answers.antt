-- A block's temporaries are those of its statements, and nothing is left after the last.
use Rattle.std.proofs.Common.{◌≤◌, min, length, refl, sym, ap, ◌∙◌, arith}
use Rattle.std.proofs.Math.ListN.{drop_of_length-le}
use Rattle.form_tree.specs.Temps.{stmt_temps}
use Rattle.form_tree.specs.Lists.{stmt_list_temps}
use Rattle.form_tree.proofs.Counting.{count_starts, count_ends, count_both}
use Rattle.form_tree.proofs.Views.{while_temps, block_temps}
use Rattle.form_tree.proofs.temps.+statement_temps.Goals as goal

pub loop-stmt-init : goal.loop-stmt-init
loop-stmt-init t c =
    let whole = ap stmt_temps c.in-Block.is ∙ block_temps c.in-Block.locals c.in-Block.body in
    let rest = ap stmt_list_temps (sym c.as_slice-stmt-items.ensures) in
    count_starts 0 0 _ _ refl (whole ∙ rest ∙ omega arith)

pub returns-in-While : goal.returns-in-While
returns-in-While t c =
    let whole = ap stmt_temps c.in-While.is ∙ while_temps c.in-While.line c.in-While.test c.in-While.body in
    let body = c.statement_temps.ensures ∙ ap (λ s. min (stmt_temps s) 256) c.get.ensures in
    c.max.ensures ∙ count_both _ _ _ _ _ c.expr_temps-in-While.ensures body whole

pub returns-after-loop-stmt : goal.returns-after-loop-stmt
returns-after-loop-stmt t c =
    let items = c.as_slice-stmt-items.result.now in
    let past : length items ≤ c.loop-stmt.stmt-index = omega (arith, c.loop-stmt-test.false) in
    count_ends _ _ _ (ap stmt_list_temps (drop_of_length-le items past)) c.loop-stmt.invariant
