-- Each part of a statement is tested, and those behind it where it has room.
use Rattle.program_fits.specs.Parts.{StmtIsWithin}
use Rattle.program_fits.proofs.Loops.{no_true, fails, follows, stops, goes_on, ends}
use Rattle.program_fits.proofs.Statements.{block_room, if_room, loop_room, switch_room}
use Rattle.program_fits.proofs.registers.+statement_temps.Goals as goal

pub statements_are_within-returns-then-not-stmt_is_within : goal.statements_are_within-returns-then-not-stmt_is_within
statements_are_within-returns-then-not-stmt_is_within t c =
    no_true
    (stops (StmtIsWithin c.args.limit) c.args.body.now c.loop-stmt.stmt-index c.stmt-item.result c.loop-stmt-test.true c.stmt-item.is
    (fails c.stmt_is_within.result c.stmt_is_within.ensures c.if-not-stmt_is_within.true))

pub statements_are_within-loop-stmt-preserved : goal.statements_are_within-loop-stmt-preserved
statements_are_within-loop-stmt-preserved t c =
    goes_on (StmtIsWithin c.args.limit) c.args.body.now c.loop-stmt.stmt-index c.stmt-item.result c.loop-stmt-test.true c.stmt-item.is
    (c.stmt_is_within.ensures.0 c.if-not-stmt_is_within.false) c.loop-stmt.invariant

pub statements_are_within-returns : goal.statements_are_within-returns
statements_are_within-returns t c =
    ends (StmtIsWithin c.args.limit) c.args.body.now c.loop-stmt.stmt-index c.loop-stmt-test.false c.loop-stmt.invariant

pub stmt_is_within-returns-in-Block : goal.stmt_is_within-returns-in-Block
stmt_is_within-returns-in-Block t c =
    follows c.statements_are_within.result
    (block_room c.args.limit c.in-Block.locals c.in-Block.body c.as_slice.result.now c.args.stmt.now c.in-Block.is c.as_slice.ensures)
    c.statements_are_within.ensures

pub stmt_is_within-returns-in-If : goal.stmt_is_within-returns-in-If
stmt_is_within-returns-in-If t c =
    follows c.branches_are_within.result
    (if_room c.args.limit c.in-If.line c.in-If.test c.in-If.then c.in-If.otherwise c.get.result.now c.get-in-If.result.now c.args.stmt.now c.in-If.is
    c.get.ensures c.get-in-If.ensures)
    c.branches_are_within.ensures

pub stmt_is_within-returns-in-Loop : goal.stmt_is_within-returns-in-Loop
stmt_is_within-returns-in-Loop t c =
    follows c.both_are_within.result
    (loop_room c.args.limit c.in-Loop.line c.in-Loop.body c.in-Loop.next c.get-in-Loop.result.now c.get-in-Loop-2.result.now c.args.stmt.now c.in-Loop.is
    c.get-in-Loop.ensures c.get-in-Loop-2.ensures)
    c.both_are_within.ensures

pub stmt_is_within-returns-in-Switch : goal.stmt_is_within-returns-in-Switch
stmt_is_within-returns-in-Switch t c =
    follows c.switch_is_within.result
    (switch_room c.args.limit c.in-Switch.line c.in-Switch.value c.in-Switch.cases c.in-Switch.other c.in-Switch.body c.as_slice-in-Switch.result.now
    c.args.stmt.now c.in-Switch.is c.as_slice-in-Switch.ensures)
    c.switch_is_within.ensures
