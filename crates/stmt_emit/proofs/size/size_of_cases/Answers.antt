-- One more case has three instructions more.
use Rattle.std.proofs.Common.{ap, arith}
use Rattle.std.proofs.lemmas.List.{drop_more}
use Rattle.c_tree.specs.declared.stmt.Case.{Case}
use Rattle.stmt_gen.specs.Code.{cases_size}
use Rattle.stmt_emit.proofs.size.size_of_cases.Goals as goal

pub loop-case-preserved : goal.loop-case-preserved
loop-case-preserved c =
    let d : Case = record { value = 0; statement = 0 } in
    let more = drop_more c.args.cases.now c.loop-case._case-index d c.loop-case-test.true in
    omega (arith, c.loop-case.invariant, ap cases_size more, c.in_ok-size.ensures)
