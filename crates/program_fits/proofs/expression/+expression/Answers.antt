-- Each part of an expression is tested, and those behind it where it fits.
use Rattle.std.proofs.Common.{◌+◌, ◌↔◌, IsTrue, Bool, length, refl, sym, subst, arith}
use Rattle.c_tree.specs.Fits.{ExprFits}
use Rattle.program_fits.specs.Lists.{LinkFits}
use Rattle.program_fits.proofs.Loops.{no_true, fails, second_decides, first_lacks, follows, stops, goes_on, ends}
use Rattle.program_fits.proofs.Expressions.{apply_view, chain_view, logic_view, choose_view, print_view, link_view}
use Rattle.program_fits.proofs.expression.+expression.Goals as goal

-- ---- lists

pub operands_fit-returns-then-not-expr_fits : goal.operands_fit-returns-then-not-expr_fits
operands_fit-returns-then-not-expr_fits t c =
    no_true
    (stops (ExprFits c.args.names.now c.args.here.now) c.args.operands.now c.loop-operand.operand-index c.operand-item.result c.loop-operand-test.true
    c.operand-item.is (fails c.expr_fits.result c.expr_fits.ensures c.if-not-expr_fits.true))

pub operands_fit-loop-operand-preserved : goal.operands_fit-loop-operand-preserved
operands_fit-loop-operand-preserved t c =
    goes_on (ExprFits c.args.names.now c.args.here.now) c.args.operands.now c.loop-operand.operand-index c.operand-item.result c.loop-operand-test.true
    c.operand-item.is (c.expr_fits.ensures.0 c.if-not-expr_fits.false) c.loop-operand.invariant

pub operands_fit-returns : goal.operands_fit-returns
operands_fit-returns t c =
    ends (ExprFits c.args.names.now c.args.here.now) c.args.operands.now c.loop-operand.operand-index c.loop-operand-test.false c.loop-operand.invariant

pub links_fit-returns-then-not-link_fits : goal.links_fit-returns-then-not-link_fits
links_fit-returns-then-not-link_fits t c =
    no_true
    (stops (LinkFits c.args.names.now c.args.here.now) c.args.links.now c.loop-link.link-index c.link-item.result c.loop-link-test.true c.link-item.is
    (fails c.link_fits.result c.link_fits.ensures c.if-not-link_fits.true))

pub links_fit-loop-link-preserved : goal.links_fit-loop-link-preserved
links_fit-loop-link-preserved t c =
    goes_on (LinkFits c.args.names.now c.args.here.now) c.args.links.now c.loop-link.link-index c.link-item.result c.loop-link-test.true c.link-item.is
    (c.link_fits.ensures.0 c.if-not-link_fits.false) c.loop-link.invariant

pub links_fit-returns : goal.links_fit-returns
links_fit-returns t c =
    ends (LinkFits c.args.names.now c.args.here.now) c.args.links.now c.loop-link.link-index c.loop-link-test.false c.loop-link.invariant

pub link_fits-returns-then-op_fits : goal.link_fits-returns-then-op_fits
link_fits-returns-then-op_fits t c =
    let items = c.as_slice-operands.result.now in
    follows c.operands_fit.result
    (second_decides (link_view c.args.names.now c.args.here.now c.args.link.now items (length items + 1) c.as_slice-operands.ensures (omega arith))
    (c.op_fits.ensures.0 c.if-op_fits.true))
    c.operands_fit.ensures

pub link_fits-returns-else-op_fits : goal.link_fits-returns-else-op_fits
link_fits-returns-else-op_fits t c =
    let items = c.as_slice-operands.result.now in
    subst (λ (b : Bool). IsTrue b ↔ LinkFits c.args.names.now c.args.here.now c.args.link.now) (sym c.if-op_fits.false)
    (no_true
    (first_lacks (link_view c.args.names.now c.args.here.now c.args.link.now items (length items + 1) c.as_slice-operands.ensures (omega arith))
    (fails c.op_fits.result c.op_fits.ensures c.if-op_fits.false)))

-- ---- whole expressions

pub expr_fits-returns-in-Apply : goal.expr_fits-returns-in-Apply
expr_fits-returns-in-Apply t c =
    let items = c.as_slice.result.now in
    follows c.apply_fits.result
    (apply_view c.args.names.now c.args.here.now c.in-Apply.line c.in-Apply.op c.in-Apply.operands items (length items) c.args.expr.now c.in-Apply.is
    c.as_slice.ensures refl)
    c.apply_fits.ensures

pub expr_fits-returns-in-Chain : goal.expr_fits-returns-in-Chain
expr_fits-returns-in-Chain t c =
    follows c.chain_fits.result
    (chain_view c.args.names.now c.args.here.now c.in-Chain.line c.in-Chain.first c.get.result.now c.in-Chain.links c.as_slice-in-Chain.result.now
    c.args.expr.now c.in-Chain.is c.get.ensures c.as_slice-in-Chain.ensures)
    c.chain_fits.ensures

pub expr_fits-returns-in-Logic : goal.expr_fits-returns-in-Logic
expr_fits-returns-in-Logic t c =
    let items = c.as_slice-in-Logic.result.now in
    follows c.some_fit.result
    (logic_view c.args.names.now c.args.here.now c.in-Logic.line c.in-Logic.all c.in-Logic.operands items (length items) c.args.expr.now c.in-Logic.is
    c.as_slice-in-Logic.ensures refl)
    c.some_fit.ensures

pub expr_fits-returns-in-Choose : goal.expr_fits-returns-in-Choose
expr_fits-returns-in-Choose t c =
    follows c.choice_fits.result
    (choose_view c.args.names.now c.args.here.now c.in-Choose.line c.in-Choose.test c.in-Choose.then c.in-Choose.otherwise c.get-in-Choose.result.now
    c.get-in-Choose-2.result.now c.get-in-Choose-3.result.now c.args.expr.now c.in-Choose.is c.get-in-Choose.ensures c.get-in-Choose-2.ensures
    c.get-in-Choose-3.ensures)
    c.choice_fits.ensures

pub expr_fits-returns-in-Print : goal.expr_fits-returns-in-Print
expr_fits-returns-in-Print t c =
    let items = c.as_slice-in-Print.result.now in
    follows c.print_fits.result
    (print_view c.args.names.now c.args.here.now c.in-Print.line c.in-Print.operands items c.in-Print.pieces c.as_slice-in-Print-2.result.now (length items)
    (length items) c.args.expr.now c.in-Print.is c.as_slice-in-Print.ensures c.as_slice-in-Print-2.ensures refl refl)
    c.print_fits.ensures
