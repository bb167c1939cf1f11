use Rattle.std.proofs.Common.{◌∙◌, arith}
use Rattle.std.proofs.lemmas.List.{drop_more}
use Rattle.std.proofs.lemmas.Result.{err_from_is_err_and}
use Rattle.c_preproc.proofs.Decided.{blank, on_expansion, on_expansion_fault, on_last_expansion}
use Rattle.c_preproc.proofs.expansion.append_expansions.Goals as goal

pub returns-in_err-append_expansion-clause-list : goal.returns-in_err-append_expansion-clause-list
returns-in_err-append_expansion-clause-list c =
    let l = c.loop-token in
    let r = c.from_residual in
    let p = err_from_is_err_and r.result r.ensures.1 in
    rw (p.1, p.2)
    (λ not_memory. on_expansion_fault c.args.macros.now l.macros c.args.tokens.now l.token-index _ l.out.items _ _ l.invariant.same (drop_more c.args.tokens.now l.token-index blank (omega (arith, c.loop-token-test.true))) (c.in_err-append_expansion.ensures.list not_memory) l.invariant.told)

pub loop-token-preserved : goal.loop-token-preserved
loop-token-preserved c =
    let l = c.loop-token in
    let step = c.in_ok-append_expansion.ensures in
    record {
      same = step.same ∙ l.invariant.same;
      told = on_expansion c.args.macros.now l.macros c.args.tokens.now l.token-index _ l.out.items c.append_expansion.new.out.items _ l.invariant.same (drop_more c.args.tokens.now l.token-index blank (omega (arith, c.loop-token-test.true))) step.list l.invariant.told;
    }

pub returns-clause-list : goal.returns-clause-list
returns-clause-list c = on_last_expansion c.args.macros.now c.args.tokens.now c.loop-token.token-index c.loop-token.out.items _ (omega (arith, c.loop-token-test.false)) c.loop-token.invariant.told
