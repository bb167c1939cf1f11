-- One more case is put.
use Rattle.std.proofs.Common.{◌≡◌, ◌+◌, ◌-◌, ◌<◌, ◌∷◌, length, get_or, drop, slice_index_or, sym, ap, ◌∙◌, arith}
use Rattle.std.proofs.lemmas.List.{drop_more}
use Rattle.c_tree.specs.declared.stmt.Case.{Case}
use Rattle.stmt_emit.proofs.Steps.{cases_step}
use Rattle.stmt_emit.proofs.switching.emit_cases.Goals as goal

pub loop-index-preserved : goal.loop-index-preserved
loop-index-preserved c =
    let j = c.loop-index.index in
    let l = c.args.cases.now in
    let d : Case = record { value = 0; statement = 0 } in
    let x = get_or l (j - 1) d in
    let above : j ≡ (j - 1) + 1 = omega (arith, c.loop-index-test.true) in
    let within : j - 1 < length l = omega (arith, c.loop-index-test.true, c.loop-index.auto.index) in
    let more : drop (j - 1) l ≡ x ∷ drop j l = drop_more l (j - 1) d within ∙ ap (λ k. x ∷ drop k l) (sym above) in
    cases_step c.args.place.library c.args.place.line c.args.place.t (λ n. slice_index_or c.args.starts.now n c.args.end) (j - 1) j c.start_of-target.result l x
    c.args.tail.now c.loop-index.tail c.emit_case.new.tail more c.start_of-target.ensures c.loop-index.invariant c.in_ok-emit_case.ensures
