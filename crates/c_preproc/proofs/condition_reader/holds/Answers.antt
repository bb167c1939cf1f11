use Rattle.std.proofs.Common.{arith, reverse, ◌∙◌}
use Rattle.c_preproc.specs.Code.Reading.{state}
use Rattle.c_preproc.proofs.ConditionItems.{on_start, on_none, on_refused, on_taken, on_end}
use Rattle.c_preproc.proofs.condition_reader.holds.Goals as goal

pub loop-token-init : goal.loop-token-init
loop-token-init c = on_start c.args.bytes.now c.args.tokens.now _ c.new-frames.ensures.items

pub returns-in_default : goal.returns-in_default
returns-in_default c =
    let l = c.loop-token in
    on_none c.args.bytes.now c.args.tokens.now l.token-index (state (reverse l.frames.items) l.mode) _ (omega arith) c.in_default.ensures l.invariant

pub returns-in-None : goal.returns-in-None
returns-in-None c =
    let l = c.loop-token in
    on_refused c.args.bytes.now c.args.tokens.now l.token-index (state (reverse l.frames.items) l.mode) c.in-Some.item (reverse c.take_item.new.frames.items) c.in_ok-next.field-0 _ (omega arith) c.in-Some.ensures c.in_ok-next.ensures c.in-None.is l.invariant

pub loop-token-preserved : goal.loop-token-preserved
loop-token-preserved c =
    let l = c.loop-token in
    on_taken c.args.bytes.now c.args.tokens.now l.token-index (state (reverse l.frames.items) l.mode) c.in-Some.item (reverse c.take_item.new.frames.items) c.in_ok-next.field-0 c.in-Some-2.next _ (omega arith) c.in-Some.ensures c.in_ok-next.ensures c.in-Some-2.is l.invariant

pub returns : goal.returns
returns c =
    let l = c.loop-token in
    c.truth_at_end.ensures ∙ on_end c.args.bytes.now c.args.tokens.now l.token-index (state (reverse l.frames.items) l.mode) _ (omega arith) l.invariant
