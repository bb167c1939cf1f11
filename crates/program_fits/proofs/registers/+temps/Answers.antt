-- Each part of an expression is tested, and those behind it where it has room.
use Rattle.std.proofs.Common.{◌+◌, ℕ, List, refl, sym, subst₂, arith}
use Rattle.c_tree.specs.declared.expr.Expr.{Expr}
use Rattle.program_fits.specs.Lists.{OperandsAreBelow, ExprIsWithin, LinkIsWithin}
use Rattle.program_fits.proofs.Loops.{no_true, fails, follows, stops, goes_on, ends}
use Rattle.program_fits.proofs.Room.{apply_room, chain_room, logic_room, choose_room, print_room, left_first, left_more, left_none, left_all}
use Rattle.program_fits.proofs.registers.+temps.Goals as goal

pub each_is_within-returns-then-not-expr_is_within : goal.each_is_within-returns-then-not-expr_is_within
each_is_within-returns-then-not-expr_is_within t c =
    no_true
    (stops (ExprIsWithin c.args.limit) c.args.operands.now c.loop-operand.operand-index c.operand-item.result c.loop-operand-test.true c.operand-item.is
    (fails c.expr_is_within.result c.expr_is_within.ensures c.if-not-expr_is_within.true))

pub each_is_within-loop-operand-preserved : goal.each_is_within-loop-operand-preserved
each_is_within-loop-operand-preserved t c =
    goes_on (ExprIsWithin c.args.limit) c.args.operands.now c.loop-operand.operand-index c.operand-item.result c.loop-operand-test.true c.operand-item.is
    (c.expr_is_within.ensures.0 c.if-not-expr_is_within.false) c.loop-operand.invariant

pub each_is_within-returns : goal.each_is_within-returns
each_is_within-returns t c =
    ends (ExprIsWithin c.args.limit) c.args.operands.now c.loop-operand.operand-index c.loop-operand-test.false c.loop-operand.invariant

pub links_are_within-returns-then-not-operands_are_below : goal.links_are_within-returns-then-not-operands_are_below
links_are_within-returns-then-not-operands_are_below t c =
    no_true
    (stops (LinkIsWithin c.args.limit) c.args.links.now c.loop-link.link-index c.link-item.result c.loop-link-test.true c.link-item.is
    (λ h. fails c.operands_are_below.result c.operands_are_below.ensures c.if-not-operands_are_below.true
    (subst₂ (λ (n : ℕ) (l : List Expr). OperandsAreBelow n l) (sym c.from.ensures) (sym c.as_slice.ensures) h)))

pub links_are_within-loop-link-preserved : goal.links_are_within-loop-link-preserved
links_are_within-loop-link-preserved t c =
    goes_on (LinkIsWithin c.args.limit) c.args.links.now c.loop-link.link-index c.link-item.result c.loop-link-test.true c.link-item.is
    (subst₂ (λ (n : ℕ) (l : List Expr). OperandsAreBelow n l) c.from.ensures c.as_slice.ensures
    (c.operands_are_below.ensures.0 c.if-not-operands_are_below.false))
    c.loop-link.invariant

pub links_are_within-returns : goal.links_are_within-returns
links_are_within-returns t c =
    ends (LinkIsWithin c.args.limit) c.args.links.now c.loop-link.link-index c.loop-link-test.false c.loop-link.invariant

pub operands_are_below-loop-operand-init : goal.operands_are_below-loop-operand-init
operands_are_below-loop-operand-init t c = left_first c.args.room c.args.operands.now

pub operands_are_below-loop-operand-preserved : goal.operands_are_below-loop-operand-preserved
operands_are_below-loop-operand-preserved t c =
    left_more c.loop-operand.room c.args.room c.args.operands.now c.loop-operand.operand-index c.operand-item.result c.loop-operand-test.true c.operand-item.is
    (c.operand_is_below.ensures.0 c.if-not-operand_is_below.false) c.loop-operand.invariant

pub operands_are_below-returns-then-not-operand_is_below : goal.operands_are_below-returns-then-not-operand_is_below
operands_are_below-returns-then-not-operand_is_below t c =
    no_true
    (left_none c.loop-operand.room c.args.room c.args.operands.now c.loop-operand.operand-index c.operand-item.result c.loop-operand-test.true c.operand-item.is
    (fails c.operand_is_below.result c.operand_is_below.ensures c.if-not-operand_is_below.true) c.loop-operand.invariant)

pub operands_are_below-returns : goal.operands_are_below-returns
operands_are_below-returns t c = (
  λ _. left_all c.loop-operand.room c.args.room c.args.operands.now c.loop-operand.operand-index c.loop-operand-test.false c.loop-operand.invariant,
  λ _. refl,
)

pub expr_is_within-returns-in-Apply : goal.expr_is_within-returns-in-Apply
expr_is_within-returns-in-Apply t c =
    follows c.value_is_within.result
    (apply_room c.args.limit c.in-Apply.line (c.args.limit + 1) c.in-Apply.op c.in-Apply.operands c.as_slice.result.now c.args.expr.now c.in-Apply.is
    c.as_slice.ensures refl)
    c.value_is_within.ensures

pub expr_is_within-returns-in-Chain : goal.expr_is_within-returns-in-Chain
expr_is_within-returns-in-Chain t c =
    follows c.chain_is_within.result
    (chain_room c.args.limit c.in-Chain.line c.in-Chain.first c.get.result.now c.in-Chain.links c.as_slice-in-Chain.result.now c.args.expr.now c.in-Chain.is
    c.get.ensures c.as_slice-in-Chain.ensures)
    c.chain_is_within.ensures

pub expr_is_within-returns-in-Logic : goal.expr_is_within-returns-in-Logic
expr_is_within-returns-in-Logic t c =
    follows c.tests_are_within.result
    (logic_room c.args.limit c.in-Logic.line c.in-Logic.all c.in-Logic.operands c.as_slice-in-Logic.result.now c.args.expr.now c.in-Logic.is
    c.as_slice-in-Logic.ensures)
    c.tests_are_within.ensures

pub expr_is_within-returns-in-Choose : goal.expr_is_within-returns-in-Choose
expr_is_within-returns-in-Choose t c =
    follows c.choice_is_within.result
    (choose_room c.args.limit c.in-Choose.line c.in-Choose.test c.in-Choose.then c.in-Choose.otherwise c.get-in-Choose.result.now
    c.get-in-Choose-2.result.now c.get-in-Choose-3.result.now c.args.expr.now c.in-Choose.is c.get-in-Choose.ensures c.get-in-Choose-2.ensures
    c.get-in-Choose-3.ensures)
    c.choice_is_within.ensures

pub expr_is_within-returns-in-Print : goal.expr_is_within-returns-in-Print
expr_is_within-returns-in-Print t c =
    follows c.value_is_within-in-Print.result
    (print_room c.args.limit c.in-Print.line (c.args.limit + 1) c.in-Print.operands c.as_slice-in-Print.result.now c.in-Print.pieces c.args.expr.now
    c.in-Print.is c.as_slice-in-Print.ensures refl)
    c.value_is_within-in-Print.ensures

pub operands_are_below-overflow_sub-room : goal.operands_are_below-overflow_sub-room
operands_are_below-overflow_sub-room t c = omega (arith, c.operand_is_below.ensures.0 c.if-not-operand_is_below.false)
