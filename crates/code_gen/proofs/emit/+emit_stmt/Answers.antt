-- The parts of a statement are what its code is made of.
use Rattle.std.proofs.Common.{rules, ◌≡◌, ◌+◌, ◌++◌, length, sym, ap, ◌∙◌, arith, length-append}
use Rattle.std.specs.Prelude.{slice_set}
use Rattle.form_tree.specs.declared.stmt.Stmt.TheViews.{the_lemmas}
use Rattle.form_tree.specs.Temps.{stmt_temps}
use Rattle.form_tree.specs.Lists.{stmt_list_temps}
use Rattle.form_tree.proofs.Views.{while_temps, block_temps}
use Rattle.code_gen.specs.Code.{expr_code, zeros_code, while_code, stmt_code}
use Rattle.code_gen.proofs.Views.{loop_code}
use Rattle.code_gen.proofs.Patch.{patch_while, block_starts}
use Rattle.code_gen.proofs.emit.+emit_stmt.Goals as goal

pub emit_expr-requires-in-While : goal.emit_expr-requires-in-While
emit_expr-requires-in-While t c =
    let whole = ap stmt_temps c.in-While.is ∙ while_temps c.in-While.line c.in-While.test c.in-While.body in
    omega (arith, whole, c.requires)

pub emit_stmt-requires : goal.emit_stmt-requires
emit_stmt-requires t c =
    let whole = ap stmt_temps c.in-While.is ∙ while_temps c.in-While.line c.in-While.test c.in-While.body in
    let part = ap stmt_temps c.get.ensures in
    (search (rules, the_lemmas), omega (arith, whole, part, c.requires))

pub loop-stmt-init : goal.loop-stmt-init
loop-stmt-init t c =
    let base = c.args.code.now.items in
    let k = c.args.t in
    let temps = ap stmt_temps c.in-Block.is ∙ block_temps c.in-Block.locals c.in-Block.body in
    let body = ap stmt_list_temps c.as_slice-stmt-items.ensures in
    let zeros = c.in_ok-emit_zeros-in-Block.ensures ∙ ap (λ l. base ++ zeros_code l) c.as_slice.ensures in
    record {
      code = block_starts c.in-Block.locals c.in-Block.body c.args.t base _ _ zeros c.as_slice-stmt-items.ensures
          ∙ ap (λ s. base ++ stmt_code s k (length base)) (sym c.in-Block.is);
      room = omega (arith, temps, body, c.requires);
    }

pub returns-in_ok-end-in-While : goal.returns-in_ok-end-in-While
returns-in_ok-end-in-While t c =
    let base = c.args.code.now.items in
    let k = c.args.t in
    let line = c.in-While.line in
    let start = c.in_ok-start-in-While.start in
    let ct = expr_code c.in-While.test k in
    let c1 = c.emit_expr-in-While.new.code.items in
    let c2 = c.put-in-While.new.code.items in
    let at : start ≡ length base = c.in_ok-start-in-While.ensures in
    let l1 : length c1 ≡ length base + length ct = ap length c.in_ok-emit_expr-in-While.ensures ∙ length-append base ct in
    let l2 : length c2 ≡ length c1 + 1 = ap length c.in_ok-put-in-While.ensures ∙ length-append c1 _ in
    let inside : length c2 ≡ length base + length ct + 1 = omega arith in
    let cb = stmt_code c.in-While.body k (length base + length ct + 1) in
    let body = c.in_ok-emit_stmt-in-While.ensures ∙ ap (λ s. c2 ++ stmt_code s k (length c2)) c.get.ensures ∙ ap (λ n. c2 ++ stmt_code c.in-While.body k n) inside in
    let back = c.in_ok-put-in-While-2.ensures in
    ap (λ i. slice_set c.put-in-While-2.new.code.items c.len-exit.result i) c.instruction.ensures
    ∙ patch_while line k start base ct cb c1 c2 _ _ _ c.len-exit.result c.in_ok-end-in-While.end at c.in_ok-emit_expr-in-While.ensures
    (c.len-exit.ensures ∙ c.emit_expr-in-While.new.code.ok.0) c.in_ok-put-in-While.ensures body back c.in_ok-end-in-While.ensures
    ∙ ap (λ n. base ++ while_code line k n ct cb) at
    ∙ ap (λ b. base ++ b) (sym (loop_code line c.in-While.test c.in-While.body k (length base)))
    ∙ ap (λ s. base ++ stmt_code s k (length base)) (sym c.in-While.is)
