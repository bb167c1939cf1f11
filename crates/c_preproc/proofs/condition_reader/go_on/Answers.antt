use Rattle.std.proofs.Common.{arith}
use Rattle.c_preproc.proofs.ConditionFrames.{on_shifted, on_empty, on_reduced, on_closed}
use Rattle.c_preproc.proofs.condition_reader.go_on.Goals as goal

pub returns-in-Some : goal.returns-in-Some
returns-in-Some c =
    let l = c.loop-frame in
    on_shifted l.frames.items c.deref.result.now _ c.top_floor.result c.in-Some.frame l.whole c.args.punctuator _ c.deref.ensures.value c.top_floor.ensures c.in-Some.ensures c.in_ok-push.ensures.items l.invariant

pub returns-in_default-pop : goal.returns-in_default-pop
returns-in_default-pop c =
    let l = c.loop-frame in
    on_empty l.frames.items c.deref.result.now c.top_floor.result l.whole c.args.punctuator _ c.deref.ensures.value c.top_floor.ensures c.in_default.ensures (omega (arith, l.frames.ok.0, c.in_default-pop.ensures.cases.0)) l.invariant

pub loop-frame-preserved : goal.loop-frame-preserved
loop-frame-preserved c =
    let l = c.loop-frame in
    on_reduced l.frames.items c.deref.result.now c.pop.new.self.items c.top_floor.result c.in-Some-pop.frame l.whole c.in-Some-reduce.next c.args.punctuator _ c.deref.ensures.value c.top_floor.ensures c.in_default.ensures c.in-Some-pop.ensures.items c.in-Some-reduce.ensures l.invariant

pub returns-in-None : goal.returns-in-None
returns-in-None c =
    let l = c.loop-frame in
    let e = on_closed l.frames.items c.deref.result.now c.pop.new.self.items c.top_floor.result c.in-Some-pop.frame l.whole c.args.punctuator _ c.deref.ensures.value c.top_floor.ensures c.in_default.ensures c.in-Some-pop.ensures.items c.in-None.ensures l.invariant in
    let k = c.close.ensures in
    rw (← e) k
