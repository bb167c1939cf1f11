-- A turn is that of the instruction where the thread stands.
use Rattle.std.proofs.Common.{inl, sym, ◌∙◌}
use Rattle.thread_steps.proofs.Over.{stands_before}
use Rattle.thread_steps.proofs.Turns.{turn_here, new_stands, results_there}
use Rattle.thread_steps.proofs.thread.CodeThread.step.Goals as goal

pub instruction-i-requires : goal.instruction-i-requires
instruction-i-requires c = stands_before c.args.code.now c.args.self.now c.requires.stands (sym c.is_before.ensures ∙ c.if-not-is_before.false)

pub act-requires-clause-results : goal.act-requires-clause-results
act-requires-clause-results c =
    results_there c.args.code.now c.args.self.now.at.callers
    (stands_before c.args.code.now c.args.self.now c.requires.stands (sym c.is_before.ensures ∙ c.if-not-is_before.false)).callers

pub returns-clause-stands : goal.returns-clause-stands
returns-clause-stands c =
    let code = c.args.code.now in
    let now = c.args.self.now in
    let places = c.args.places.now in
    inl (new_stands code c.act.result places now c.act.new.self c.functions-functions.ensures.well_formed
    (stands_before code now c.requires.stands (sym c.is_before.ensures ∙ c.if-not-is_before.false))
    (turn_here code now c.instruction-i.result.now c.instruction-i.ensures.here c.act.result places c.act.new.self c.act.ensures.exact))
