-- The code of a statement's last part is put first, and each other part before it.
use Rattle.std.proofs.Common.{◌≡◌, ℕ, ◌+◌, ◌-◌, length, slice_index_or, refl, sym, ap, ◌∙◌, subst, arith}
use Rattle.c_tree.specs.declared.stmt.Stmt.{Block, If, Loop, Switch}
use Rattle.whole_code.specs.declared.op.Op.TheVariants.{Jump}
use Rattle.expr_gen.specs.Operations.{at_line}
use Rattle.stmt_gen.specs.Code.{Exits, cases_code}
use Rattle.expr_emit.specs.Tail.{before, Replaces}
use Rattle.expr_emit.proofs.Tails.{on_ok}
use Rattle.expr_emit.proofs.Steps.{next_at}
use Rattle.stmt_emit.specs.Lists.{exits_of}
use Rattle.stmt_emit.proofs.Puts.{statements_put, starts_put, block_put, if_put, loop_put, switch_put, put_as, put_same}
use Rattle.stmt_emit.proofs.statement.+statement.Goals as goal

-- ---- lists

pub emit_statements-loop-index-preserved : goal.emit_statements-loop-index-preserved
emit_statements-loop-index-preserved t c =
    let j = c.loop-index.index in
    let l = c.args.body.now in
    let s = c.index-body-index.result in
    let above : j ≡ (j - 1) + 1 = omega (arith, c.loop-index-test.true) in
    let more = next_at l (j - 1) j s above (omega (arith, c.loop-index-test.true, c.loop-index.auto.index)) c.index-body-index.is in
    statements_put c.args.inside.place.library (j - 1) j c.args.tail.now c.loop-index.tail c.emit_stmt.new.tail l s c.args.inside.place.t (exits_of c.args.inside.exits) more
    c.loop-index.invariant c.in_ok-emit_stmt.ensures

pub emit_switch_body-loop-index-preserved : goal.emit_switch_body-loop-index-preserved
emit_switch_body-loop-index-preserved t c =
    let j = c.loop-index.index in
    let l = c.args.body.now in
    let s = c.index-body-index.result in
    let above : j ≡ (j - 1) + 1 = omega (arith, c.loop-index-test.true) in
    let more = next_at l (j - 1) j s above (omega (arith, c.loop-index-test.true, c.loop-index.auto.index)) c.index-body-index.is in
    let x = exits_of c.args.inside.exits in
    record {
      code = statements_put c.args.inside.place.library (j - 1) j c.args.tail.now c.loop-index.tail c.emit_stmt.new.tail l s c.args.inside.place.t x more c.loop-index.invariant.code
          c.in_ok-emit_stmt.ensures;
      starts = starts_put c.args.inside.place.library (j - 1) j c.args.tail.now c.loop-index.tail c.emit_stmt.new.tail l s c.args.inside.place.t x more c.start-in-loop-index.result
          c.args.starts.now.items c.loop-index.starts.items c.push-in-loop-index.new.self.items c.loop-index.invariant.code c.in_ok-emit_stmt.ensures
          c.start-in-loop-index.ensures c.loop-index.invariant.starts c.in_ok-push-2.ensures.items;
    }

-- ---- whole statements

pub emit_block-returns : goal.emit_block-returns
emit_block-returns t c =
    let p = c.args.inside.place in
    let locals = c.args.locals.now in
    let body = c.args.body.now in
    on_ok c.emit_locals.result _ _
    (block_put p.library p.t (Block locals body) (exits_of c.args.inside.exits) c.args.tail.now c.emit_statements.new.tail c.emit_locals.new.tail
    locals locals body body refl refl refl c.in_ok-emit_statements.ensures)
    c.emit_locals.ensures

pub emit_if-returns : goal.emit_if-returns
emit_if-returns t c =
    let p = c.args.inside.place in
    let test = c.args.test.now in
    let one = c.args.one.now in
    let last = c.args.last.now in
    on_ok c.emit_expression.result _ _
    (if_put p.library p.t (If p.line test one last) (exits_of c.args.inside.exits) p.line c.start-end.result c.start-target.result test one last one last
    c.args.tail.now c.emit_stmt.new.tail c.put.new.tail c.emit_stmt-2.new.tail c.put-2.new.tail c.emit_expression.new.tail refl refl refl
    c.start-end.ensures c.start-target.ensures c.in_ok-emit_stmt.ensures c.in_ok-put.ensures c.in_ok-emit_stmt-2.ensures c.in_ok-put-2.ensures)
    c.emit_expression.ensures

pub emit_loop-returns : goal.emit_loop-returns
emit_loop-returns t c =
    let p = c.args.inside.place in
    let body = c.args.body.now in
    let next = c.args.next.now in
    let s0 = c.args.tail.now in
    let s1 = c.put.new.tail in
    let s2 = c.emit_stmt.new.tail in
    let s3 = c.emit_stmt-2.new.tail in
    let s4 = c.replace.new.self in
    let jump = λ (k : ℕ). at_line p.library p.line (Jump k) in
    let of_body : Exits = record { broke = c.start-broke.result; continued = c.start-continued.result } in
    let of_next : Exits = record { broke = c.start-broke.result; continued = c.start-back.result } in
    let replaces : Replaces (length s0.instructions) (jump s3.start) s3.instructions s4.instructions =
    subst (λ k. Replaces k (jump s3.start) s3.instructions s4.instructions) c.len-behind.ensures
    (subst (λ k. Replaces c.len-behind.result (jump k) s3.instructions s4.instructions) c.start-target.ensures c.replace.ensures.instructions) in
    loop_put p.library p.t (Loop p.line body next) (exits_of c.args.inside.exits) p.line body next body next of_body of_next s0 s1 s2 s3 s4 refl refl refl
    c.start-broke.ensures c.start-continued.ensures c.start-broke.ensures c.start-back.ensures c.in_ok-put.ensures c.in_ok-emit_stmt.ensures
    c.in_ok-emit_stmt-2.ensures c.replace.ensures.start replaces

pub emit_switch-returns : goal.emit_switch-returns
emit_switch-returns t c =
    let p = c.args.inside.place in
    let end = c.start-end.result in
    let turned = c.reverse.new.self.items in
    let value = c.args.value.now in
    let cases = c.args.cases.now in
    let body = c.args.body.now in
    let aim = c.start_of-target.ensures ∙ ap (λ l. slice_index_or l c.args.other end) c.deref.ensures.value in
    let put =
    c.in_ok-emit_cases.ensures
    ∙ ap (λ l. before (cases_code p.library p.line p.t (λ n. slice_index_or l n end) cases) c.put.new.tail) c.deref-2.ensures.value in
    on_ok c.emit_expression.result _ _
    (switch_put p.library p.t (Switch p.line value cases c.args.other body) (exits_of c.args.inside.exits) p.line value cases cases c.args.other
    c.start_of-target.result end body body c.new-starts.result.items c.emit_switch_body.new.starts.items turned c.args.tail.now
    c.emit_switch_body.new.tail c.put.new.tail c.emit_cases.new.tail c.emit_expression.new.tail refl refl refl c.start-end.ensures
    c.in_ok-emit_switch_body.ensures.code c.new-starts.ensures.items c.in_ok-emit_switch_body.ensures.starts c.reverse.ensures.items aim
    c.in_ok-put.ensures put)
    c.emit_expression.ensures

-- ---- each is the statement's own

pub emit_stmt-returns-in-Block : goal.emit_stmt-returns-in-Block
emit_stmt-returns-in-Block t c =
    let locals = c.as_slice.result.now in
    let body = c.as_slice-in-Block.result.now in
    let same : c.args.stmt.now ≡ Block locals body =
    c.in-Block.is ∙ ap (λ l. Block l c.in-Block.body) (sym c.as_slice.ensures) ∙ ap (λ l. Block locals l) (sym c.as_slice-in-Block.ensures) in
    on_ok c.emit_block.result _ _ (put_same c.args.inside (Block locals body) c.args.stmt.now c.args.tail.now c.emit_block.new.tail same) c.emit_block.ensures

pub emit_stmt-returns-in-If : goal.emit_stmt-returns-in-If
emit_stmt-returns-in-If t c =
    let line = c.in-If.line in
    let one = c.get.result.now in
    let last = c.get-in-If.result.now in
    let same : c.args.stmt.now ≡ If line c.in-If.test one last =
    c.in-If.is ∙ ap (λ s. If line c.in-If.test s c.in-If.otherwise) (sym c.get.ensures) ∙ ap (λ s. If line c.in-If.test one s) (sym c.get-in-If.ensures) in
    on_ok c.emit_if.result _ _
    (put_as c.on_line-inside.result c.args.inside line (λ (k : ℕ). If k c.in-If.test one last) c.args.stmt.now c.args.tail.now c.emit_if.new.tail
    c.on_line-inside.ensures same)
    c.emit_if.ensures

pub emit_stmt-returns-in-Loop : goal.emit_stmt-returns-in-Loop
emit_stmt-returns-in-Loop t c =
    let line = c.in-Loop.line in
    let body = c.get-in-Loop.result.now in
    let next = c.get-in-Loop-2.result.now in
    let same : c.args.stmt.now ≡ Loop line body next =
    c.in-Loop.is ∙ ap (λ s. Loop line s c.in-Loop.next) (sym c.get-in-Loop.ensures) ∙ ap (λ s. Loop line body s) (sym c.get-in-Loop-2.ensures) in
    on_ok c.emit_loop.result _ _
    (put_as c.on_line.result c.args.inside line (λ (k : ℕ). Loop k body next) c.args.stmt.now c.args.tail.now c.emit_loop.new.tail
    c.on_line.ensures same)
    c.emit_loop.ensures

pub emit_stmt-returns-in-Switch : goal.emit_stmt-returns-in-Switch
emit_stmt-returns-in-Switch t c =
    let line = c.in-Switch.line in
    let cases = c.as_slice-cases.result.now in
    let body = c.as_slice-in-Switch.result.now in
    let same : c.args.stmt.now ≡ Switch line c.in-Switch.value cases c.in-Switch.other body =
    c.in-Switch.is ∙ ap (λ l. Switch line c.in-Switch.value l c.in-Switch.other c.in-Switch.body) (sym c.as_slice-cases.ensures)
    ∙ ap (λ l. Switch line c.in-Switch.value cases c.in-Switch.other l) (sym c.as_slice-in-Switch.ensures) in
    on_ok c.emit_switch.result _ _
    (put_as c.on_line-inside-in-Switch.result c.args.inside line (λ (k : ℕ). Switch k c.in-Switch.value cases c.in-Switch.other body) c.args.stmt.now
    c.args.tail.now c.emit_switch.new.tail c.on_line-inside-in-Switch.ensures same)
    c.emit_switch.ensures
