-- Each part of a statement is tested, and those behind it where it fits.
use Rattle.std.proofs.Common.{◌≡◌, length, refl}
use Rattle.std.proofs.lemmas.Option.{MatchOption-at_some, MatchOption-at_none}
use Rattle.c_tree.specs.Fits.{ExprFits, StmtFits, LocalsFit, in_block, in_switch}
use Rattle.program_fits.proofs.Loops.{no_true, fails, second_decides, first_lacks, follows_ok, itself, stops, goes_on, ends}
use Rattle.program_fits.proofs.Homes.{with_homes, inside_block}
use Rattle.program_fits.proofs.Statements.{block_inside, switch_inside, block_view, if_view, loop_view, switch_view}
use Rattle.program_fits.proofs.statement.+statement.Goals as goal

pub statements_fit-returns-then-not-fits : goal.statements_fit-returns-then-not-fits
statements_fit-returns-then-not-fits t c =
    no_true
    (stops (StmtFits c.args.names.now c.args.here.now) c.args.body.now c.loop-stmt.stmt-index c.stmt-item.result c.loop-stmt-test.true c.stmt-item.is
    (fails c.in_ok-fits.fits c.in_ok-fits.ensures c.if-not-fits.true))

pub statements_fit-loop-stmt-preserved : goal.statements_fit-loop-stmt-preserved
statements_fit-loop-stmt-preserved t c =
    goes_on (StmtFits c.args.names.now c.args.here.now) c.args.body.now c.loop-stmt.stmt-index c.stmt-item.result c.loop-stmt-test.true c.stmt-item.is
    (c.in_ok-fits.ensures.0 c.if-not-fits.false) c.loop-stmt.invariant

pub statements_fit-returns : goal.statements_fit-returns
statements_fit-returns t c =
    ends (StmtFits c.args.names.now c.args.here.now) c.args.body.now c.loop-stmt.stmt-index c.loop-stmt-test.false c.loop-stmt.invariant

pub both_fit-returns-then-first : goal.both_fit-returns-then-first
both_fit-returns-then-first t c =
    follows_ok c.stmt_fits-then-first.result
    (second_decides (itself (StmtFits c.args.names.now c.args.here.now c.args.one.now × StmtFits c.args.names.now c.args.there.now c.args.other.now))
    (c.in_ok-first.ensures.0 c.if-first.true))
    c.stmt_fits-then-first.ensures

pub both_fit-returns-else-first : goal.both_fit-returns-else-first
both_fit-returns-else-first t c =
    no_true
    (first_lacks (itself (StmtFits c.args.names.now c.args.here.now c.args.one.now × StmtFits c.args.names.now c.args.there.now c.args.other.now))
    (fails c.in_ok-first.first c.in_ok-first.ensures c.if-first.false))

pub branches_fit-returns-then-expr_fits : goal.branches_fit-returns-then-expr_fits
branches_fit-returns-then-expr_fits t c =
    let o = c.args.names.now in
    let here = c.args.here.now in
    follows_ok c.both_fit.result
    (second_decides (itself (ExprFits o here c.args.test.now × (StmtFits o here c.args.one.now × StmtFits o here c.args.other.now)))
    (c.expr_fits.ensures.0 c.if-expr_fits.true))
    c.both_fit.ensures

pub branches_fit-returns-else-expr_fits : goal.branches_fit-returns-else-expr_fits
branches_fit-returns-else-expr_fits t c =
    let o = c.args.names.now in
    let here = c.args.here.now in
    no_true
    (first_lacks (itself (ExprFits o here c.args.test.now × (StmtFits o here c.args.one.now × StmtFits o here c.args.other.now)))
    (fails c.expr_fits.result c.expr_fits.ensures c.if-expr_fits.false))

pub switch_fits-returns-then-head_fits : goal.switch_fits-returns-then-head_fits
switch_fits-returns-then-head_fits t c =
    follows_ok c.statements_fit.result
    (second_decides (switch_inside c.args.names.now c.args.here.now c.in_switch-inside.result c.args.value.now c.args.cases.now c.args.other c.args.body.now
    c.in_switch-inside.ensures) (c.head_fits.ensures.0 c.if-head_fits.true))
    c.statements_fit.ensures

pub switch_fits-returns-else-head_fits : goal.switch_fits-returns-else-head_fits
switch_fits-returns-else-head_fits t c =
    no_true
    (first_lacks (switch_inside c.args.names.now c.args.here.now (in_switch c.args.here.now) c.args.value.now c.args.cases.now c.args.other c.args.body.now refl)
    (fails c.head_fits.result c.head_fits.ensures c.if-head_fits.false))

pub block_fits-returns-in-None : goal.block_fits-returns-in-None
block_fits-returns-in-None t c =
    no_true
    (λ h. MatchOption-at_none {o = c.in_ok-found.found} (LocalsFit c.args.here.now c.args.locals.now → ⊥)
    (λ homes. LocalsFit c.args.here.now c.args.locals.now) c.in-None.is c.in_ok-found.ensures.fits h.0)

pub block_fits-returns-in-Some : goal.block_fits-returns-in-Some
block_fits-returns-in-Some t c =
    let here = c.args.here.now in
    let locals = c.args.locals.now in
    let good : LocalsFit here locals =
    MatchOption-at_some {o = c.in_ok-found.found} (LocalsFit here locals → ⊥) (λ homes. LocalsFit here locals) c.in-Some.homes c.in-Some.is
    c.in_ok-found.ensures.fits
    in
    let behind : in_block here locals ≡ with_homes here c.in-Some.homes.items =
    MatchOption-at_some {o = c.in_ok-found.found} (Unit {0}) (λ homes. in_block here locals ≡ with_homes here homes.items) c.in-Some.homes c.in-Some.is
    c.in_ok-found.ensures.homes
    in
    let inside = inside_block here c.with_homes-inside.result locals c.in-Some.homes.items c.as_slice-items.result.now c.with_homes-inside.ensures
    c.as_slice-items.ensures.value behind in
    follows_ok c.statements_fit.result (block_inside c.args.names.now here c.with_homes-inside.result locals c.args.body.now good inside)
    c.statements_fit.ensures

-- ---- whole statements

pub stmt_fits-returns-in-Block : goal.stmt_fits-returns-in-Block
stmt_fits-returns-in-Block t c =
    follows_ok c.block_fits.result
    (block_view c.args.names.now c.args.here.now c.in-Block.locals c.as_slice.result.now c.in-Block.body c.as_slice-in-Block.result.now c.args.stmt.now
    c.in-Block.is c.as_slice.ensures c.as_slice-in-Block.ensures)
    c.block_fits.ensures

pub stmt_fits-returns-in-If : goal.stmt_fits-returns-in-If
stmt_fits-returns-in-If t c =
    follows_ok c.branches_fit.result
    (if_view c.args.names.now c.args.here.now c.in-If.line c.in-If.test c.in-If.then c.in-If.otherwise c.get.result.now c.get-in-If.result.now
    c.args.stmt.now c.in-If.is c.get.ensures c.get-in-If.ensures)
    c.branches_fit.ensures

pub stmt_fits-returns-in-Loop : goal.stmt_fits-returns-in-Loop
stmt_fits-returns-in-Loop t c =
    follows_ok c.both_fit.result
    (loop_view c.args.names.now c.args.here.now c.in_loop-inside.result c.behind_body-behind.result c.in-Loop.line c.in-Loop.body c.in-Loop.next
    c.get-in-Loop.result.now c.get-in-Loop-2.result.now c.args.stmt.now c.in-Loop.is c.get-in-Loop.ensures c.get-in-Loop-2.ensures
    c.in_loop-inside.ensures c.behind_body-behind.ensures)
    c.both_fit.ensures

pub stmt_fits-returns-in-Switch : goal.stmt_fits-returns-in-Switch
stmt_fits-returns-in-Switch t c =
    let items = c.as_slice-in-Switch.result.now in
    follows_ok c.switch_fits.result
    (switch_view c.args.names.now c.args.here.now (in_switch c.args.here.now) c.in-Switch.line c.in-Switch.value c.in-Switch.cases
    c.as_slice-cases.result.now c.in-Switch.other (length items) c.in-Switch.body items c.args.stmt.now c.in-Switch.is c.as_slice-cases.ensures
    c.as_slice-in-Switch.ensures refl refl)
    c.switch_fits.ensures
