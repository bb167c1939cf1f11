use Rattle.std.proofs.Common.{arith, ◌∙◌}
use Rattle.c_preproc.proofs.ConditionFrames.{end_reduced, end_open, end_empty}
use Rattle.c_preproc.proofs.condition_reader.reduce_all.Goals as goal

pub returns-in_err-whole : goal.returns-in_err-whole
returns-in_err-whole c =
    let l = c.loop-frame in
    c.from_residual.ensures ∙ end_open l.frames.items c.pop.new.self.items c.in-Some.frame l.value _ c.in-Some.ensures.items c.in_err-whole.ensures l.invariant

pub loop-frame-preserved : goal.loop-frame-preserved
loop-frame-preserved c =
    let l = c.loop-frame in
    end_reduced l.frames.items c.pop.new.self.items c.in-Some.frame l.value c.in_ok-whole.whole _ c.in-Some.ensures.items c.in_ok-whole.ensures l.invariant

pub returns : goal.returns
returns c =
    let l = c.loop-frame in
    end_empty l.frames.items l.value _ (omega (arith, l.frames.ok.0, c.in_default.ensures.cases.0)) l.invariant
