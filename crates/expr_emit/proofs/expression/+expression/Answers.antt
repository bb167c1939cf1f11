-- The code of an expression's last part is put first, and each other part before it.
use Rattle.std.proofs.Common.{◌≡◌, ℕ, suc, ◌+◌, ◌-◌, length, refl, sym, ap, ◌∙◌, subst, arith}
use Rattle.c_tree.specs.declared.expr.Expr.{Apply, Logic, Choose, Print}
use Rattle.expr_emit.specs.declared.place.Place.{Place}
use Rattle.expr_emit.specs.Tail.{PutsBefore}
use Rattle.expr_emit.specs.Lists.{link_list_size, link_list_code}
use Rattle.expr_emit.proofs.Tails.{on_ok}
use Rattle.expr_emit.proofs.Steps.{next_at}
use Rattle.expr_emit.proofs.Puts.{operands_put, and_put, or_put, links_put, apply_put, print_put, chain_put, logic_put, choice_put, put_as}
use Rattle.expr_emit.proofs.expression.+expression.Goals as goal

-- ---- lists

pub emit_operands-loop-index-preserved : goal.emit_operands-loop-index-preserved
emit_operands-loop-index-preserved t c =
    let j = c.loop-index.index in
    let l = c.args.operands.now in
    let x = c.index-operands-index.result in
    let above : j ≡ (j - 1) + 1 = omega (arith, c.loop-index-test.true) in
    let more = next_at l (j - 1) j x above (omega (arith, c.loop-index-test.true, c.loop-index.auto.index)) c.index-operands-index.is in
    operands_put c.args.library (j - 1) j c.args.tail.now c.loop-index.tail c.emit_expression.new.tail l x c.args.t c.in_ok-d.d above more c.in_ok-d.ensures
    c.loop-index.invariant c.in_ok-emit_expression.ensures

pub emit_all-loop-index-preserved : goal.emit_all-loop-index-preserved
emit_all-loop-index-preserved t c =
    let j = c.loop-index.index in
    let l = c.args.operands.now in
    let x = c.index-operands-index.result in
    let above : j ≡ (j - 1) + 1 = omega (arith, c.loop-index-test.true) in
    let more = next_at l (j - 1) j x above (omega (arith, c.loop-index-test.true, c.loop-index.auto.index)) c.index-operands-index.is in
    and_put c.args.place.library (j - 1) j c.args.tail.now c.loop-index.tail c.emit_expression.new.tail c.args.place.line l x c.args.place.t c.args.zero c.put.new.tail more
    c.loop-index.invariant c.in_ok-put.ensures c.in_ok-emit_expression.ensures

pub emit_any-loop-index-preserved : goal.emit_any-loop-index-preserved
emit_any-loop-index-preserved t c =
    let j = c.loop-index.index in
    let l = c.args.operands.now in
    let x = c.index-operands-index.result in
    let above : j ≡ (j - 1) + 1 = omega (arith, c.loop-index-test.true) in
    let more = next_at l (j - 1) j x above (omega (arith, c.loop-index-test.true, c.loop-index.auto.index)) c.index-operands-index.is in
    or_put c.args.place.library (j - 1) j c.args.tail.now c.loop-index.tail c.emit_expression.new.tail c.args.place.line l x c.args.place.t c.start.result c.args.end c.put.new.tail more
    c.loop-index.invariant c.start.ensures c.in_ok-put.ensures c.in_ok-emit_expression.ensures

pub emit_links-loop-index-preserved : goal.emit_links-loop-index-preserved
emit_links-loop-index-preserved t c =
    let j = c.loop-index.index in
    let l = c.args.links.now in
    let x = c.index-links-index.result in
    let above : j ≡ (j - 1) + 1 = omega (arith, c.loop-index-test.true) in
    let more = next_at l (j - 1) j x above (omega (arith, c.loop-index-test.true, c.loop-index.auto.index)) c.index-links-index.is in
    let items = c.as_slice-operands.result.now in
    let many : c.in_ok-count.count ≡ suc (length items) = omega (arith, c.in_ok-count.ensures) in
    links_put c.args.place.library (j - 1) j c.args.tail.now c.loop-index.tail c.emit_operands.new.tail c.args.place.line l x items c.args.place.t c.in_ok-second.second
    c.in_ok-count.count c.emit_operation.new.tail more c.as_slice-operands.ensures c.in_ok-second.ensures many c.loop-index.invariant
    c.in_ok-emit_operation.ensures c.in_ok-emit_operands.ensures

-- ---- whole expressions

pub emit_apply-returns : goal.emit_apply-returns
emit_apply-returns t c =
    let p = c.args.place in
    let l = c.args.operands.now in
    let many : c.in_ok-count.count ≡ length l = omega (arith, c.in_ok-count.ensures) in
    on_ok c.emit_operands.result _ _
    (apply_put p.library p.line p.t (Apply p.line c.args.op l) c.args.tail.now c.emit_operation.new.tail c.emit_operands.new.tail c.args.op l l
    c.in_ok-count.count refl refl many c.in_ok-emit_operation.ensures)
    c.emit_operands.ensures

pub emit_choice-returns : goal.emit_choice-returns
emit_choice-returns t c =
    let p = c.args.place in
    let test = c.args.test.now in
    let one = c.args.one.now in
    let last = c.args.last.now in
    on_ok c.emit_expression-3.result _ _
    (choice_put p.library p.line p.t c.start-end.result c.start-other.result (Choose p.line test one last) test one last test one last c.args.tail.now
    c.emit_expression.new.tail c.put.new.tail c.emit_expression-2.new.tail c.put-2.new.tail c.emit_expression-3.new.tail refl refl refl refl
    c.start-end.ensures c.start-other.ensures c.in_ok-emit_expression.ensures c.in_ok-put.ensures c.in_ok-emit_expression-2.ensures
    c.in_ok-put-2.ensures)
    c.emit_expression-3.ensures

pub emit_printf-returns : goal.emit_printf-returns
emit_printf-returns t c =
    let p = c.args.place in
    let l = c.args.operands.now in
    let pieces = c.args.pieces.now in
    let many : c.in_ok-count.count ≡ length l = omega (arith, c.in_ok-count.ensures) in
    on_ok c.emit_operands.result _ _
    (print_put p.library p.line p.t (Print p.line l pieces) c.args.tail.now c.emit_print.new.tail c.emit_operands.new.tail l l pieces pieces
    c.in_ok-count.count refl refl refl many c.in_ok-emit_print.ensures)
    c.emit_operands.ensures

-- ---- each is the expression's own

pub emit_expression-returns-in-Apply : goal.emit_expression-returns-in-Apply
emit_expression-returns-in-Apply t c =
    let line = c.in-Apply.line in
    let items = c.as_slice.result.now in
    let same : c.args.expr.now ≡ Apply line c.in-Apply.op items = c.in-Apply.is ∙ ap (λ l. Apply line c.in-Apply.op l) (sym c.as_slice.ensures) in
    on_ok c.emit_apply.result _ _
    (put_as c.place_of.result c.args.library line c.args.t (λ (k : ℕ). Apply k c.in-Apply.op items) c.args.expr.now c.args.tail.now
    c.emit_apply.new.tail c.place_of.ensures same)
    c.emit_apply.ensures

pub emit_expression-returns-in_ok-emit_links-in-Chain : goal.emit_expression-returns-in_ok-emit_links-in-Chain
emit_expression-returns-in_ok-emit_links-in-Chain t c =
    let items = c.as_slice-in-Chain.result.now in
    let s0 = c.args.tail.now in
    let s1 = c.emit_links.new.tail in
    let put =
    subst (λ (p : Place). PutsBefore (link_list_size items) (link_list_code p.library p.line items p.t) s0 s1) c.place_of-in-Chain.ensures
    c.in_ok-emit_links-in-Chain.ensures in
    on_ok c.emit_expression.result _ _
    (chain_put c.args.library c.in-Chain.line c.args.t c.args.expr.now s0 s1 c.emit_expression.new.tail c.in-Chain.first c.get.result.now
    c.in-Chain.links items c.in-Chain.is c.as_slice-in-Chain.ensures c.get.ensures put)
    c.emit_expression.ensures

pub emit_expression-returns-in-Logic : goal.emit_expression-returns-in-Logic
emit_expression-returns-in-Logic t c =
    let line = c.in-Logic.line in
    let all = c.in-Logic.all in
    let items = c.as_slice-in-Logic.result.now in
    let p = c.place_of-place.result in
    let same : c.args.expr.now ≡ Logic line all items = c.in-Logic.is ∙ ap (λ l. Logic line all l) (sym c.as_slice-in-Logic.ensures) in
    on_ok c.emit_logic.result _ _
    (λ put. put_as p c.args.library line c.args.t (λ (k : ℕ). Logic k all items) c.args.expr.now c.args.tail.now c.emit_logic.new.tail
    c.place_of-place.ensures same
    (logic_put p.library p.line p.t (Logic p.line all items) c.args.tail.now c.emit_logic.new.tail all items items refl refl put))
    c.emit_logic.ensures

pub emit_expression-returns-in-Choose : goal.emit_expression-returns-in-Choose
emit_expression-returns-in-Choose t c =
    let line = c.in-Choose.line in
    let test = c.get-in-Choose.result.now in
    let one = c.get-in-Choose-2.result.now in
    let last = c.get-in-Choose-3.result.now in
    let same : c.args.expr.now ≡ Choose line test one last =
    c.in-Choose.is ∙ ap (λ e. Choose line e c.in-Choose.then c.in-Choose.otherwise) (sym c.get-in-Choose.ensures)
    ∙ ap (λ e. Choose line test e c.in-Choose.otherwise) (sym c.get-in-Choose-2.ensures) ∙ ap (λ e. Choose line test one e) (sym c.get-in-Choose-3.ensures) in
    on_ok c.emit_choice.result _ _
    (put_as c.place_of-place-in-Choose.result c.args.library line c.args.t (λ (k : ℕ). Choose k test one last) c.args.expr.now c.args.tail.now
    c.emit_choice.new.tail c.place_of-place-in-Choose.ensures same)
    c.emit_choice.ensures

pub emit_expression-returns-in-Print : goal.emit_expression-returns-in-Print
emit_expression-returns-in-Print t c =
    let line = c.in-Print.line in
    let items = c.as_slice-in-Print.result.now in
    let pieces = c.as_slice-in-Print-2.result.now in
    let same : c.args.expr.now ≡ Print line items pieces =
    c.in-Print.is ∙ ap (λ l. Print line l c.in-Print.pieces) (sym c.as_slice-in-Print.ensures) ∙ ap (λ l. Print line items l) (sym c.as_slice-in-Print-2.ensures) in
    on_ok c.emit_printf.result _ _
    (put_as c.place_of-place-in-Print.result c.args.library line c.args.t (λ (k : ℕ). Print k items pieces) c.args.expr.now c.args.tail.now
    c.emit_printf.new.tail c.place_of-place-in-Print.ensures same)
    c.emit_printf.ensures
