-- Each block in its turn: the earliest line so far, before those of what is left, stays that of the whole.
use Rattle.std.proofs.Common.{◌∙◌, ap, refl, reverse}
use Rattle.std.proofs.lemmas.List.{nil_from_length}
use Rattle.c_preproc.specs.Groups.{earlier, outermost, step_of}
use Rattle.c_preproc.proofs.Balance.{on_plain, on_directive, on_step, on_alone, on_end}
use Rattle.c_preproc.proofs.groups.unbalanced_line.Goals as goal

pub loop-hash-preserved-in_default-directive_length :
    goal.loop-hash-preserved-in_default-directive_length
loop-hash-preserved-in_default-directive_length c =
    on_plain _ _ _ _ _ c.in-Some.behind.now c.in-Some.hash.now c.in-Some.ensures.cases.0 c.in_default-directive_length.ensures.block c.loop-hash.invariant

pub returns : goal.returns
returns c =
    let l = c.loop-hash in
    on_end c.args.bytes.now l.least _ _ c.outermost.result _ l.rest.now (nil_from_length _ c.in_default.ensures.cases) (c.outermost.ensures ∙ ap (λ opens. outermost (reverse opens)) c.deref-2.ensures.value) c.earlier.ensures l.invariant

pub returns-in-Alone : goal.returns-in-Alone
returns-in-Alone c =
    let l = c.loop-hash in
    let word = c.directive_word-word.result in
    on_alone c.step_of-step.result l.least _ _ _ c.in-Some.hash.now.line c.in-Alone.is (c.earlier-least.ensures ∙ ap (earlier l.least) c.fault_line.ensures)
    (on_directive c.args.bytes.now l.least _ (reverse l.opens.items) _ l.rest.now c.in-Some.behind.now c.split_at.result.0.now c.split_at.result.1.now c.in-Some.hash.now c.in-Some-directive_length.count word c.step_of-step.result c.in-Some.ensures.cases.0 c.in-Some-directive_length.ensures.block c.split_at.ensures.front c.split_at.ensures.back c.directive_word-word.ensures
    (c.step_of-step.ensures ∙ ap (λ opens. step_of word (reverse opens)) c.deref.ensures.value) refl l.invariant)

pub loop-hash-preserved : goal.loop-hash-preserved
loop-hash-preserved c =
    let l = c.loop-hash in
    let word = c.directive_word-word.result in
    on_step c.step_of-step.result l.least _ _ _ c.in-Some.hash.now.line c.in_default-step.not-Alone (c.earlier-least.ensures ∙ ap (earlier l.least) c.fault_line.ensures)
    (on_directive c.args.bytes.now l.least _ (reverse l.opens.items) (reverse c.nest.new.opens.items) l.rest.now c.in-Some.behind.now c.split_at.result.0.now c.split_at.result.1.now c.in-Some.hash.now c.in-Some-directive_length.count word c.step_of-step.result c.in-Some.ensures.cases.0 c.in-Some-directive_length.ensures.block c.split_at.ensures.front c.split_at.ensures.back c.directive_word-word.ensures
    (c.step_of-step.ensures ∙ ap (λ opens. step_of word (reverse opens)) c.deref.ensures.value) c.in_ok-nest.ensures l.invariant)
