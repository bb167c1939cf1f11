-- An answer is taken in by the instruction where the thread stands.
use Rattle.std.proofs.Common.{Option, inl, sym, ap, ◌∙◌, subst}
use Rattle.whole_code.specs.declared.op.Instruction.{Instruction}
use Rattle.whole_thread.specs.declared.stage.Want.{Want}
use Rattle.whole_thread.specs.declared.stage.Stage.{Stage}
use Rattle.whole_thread.specs.Standing.{trap_line}
use Rattle.whole_thread.specs.Thread.{Thread}
use Rattle.whole_thread.specs.Answers.{answer_at, answer_by}
use Rattle.thread_steps.specs.Short.{IsNear}
use Rattle.thread_steps.specs.Stands.{StandsIn}
use Rattle.thread_steps.proofs.Over.{answer_over, stands_still}
use Rattle.thread_steps.proofs.Turns.{want_here}
use Rattle.thread_steps.proofs.Standing.{answer_stands}
use Rattle.thread_steps.proofs.thread.CodeThread.answer.Goals as goal

pub instruction-i-requires : goal.instruction-i-requires
instruction-i-requires c = stands_still c.args.code.now c.args.self.now c.requires.stands (sym c.is_over.ensures ∙ c.if-is_over.false)

pub answer_at-requires-clause-near : goal.answer_at-requires-clause-near
answer_at-requires-clause-near c =
    let i = c.instruction-i.result.now in
    subst (λ (w : Want). IsNear w c.args.answer)
    (want_here c.args.code.now c.args.self.now i c.instruction-i.ensures.here c.stage_here-stage.result c.stage_here-stage.ensures.stage) c.requires.near

pub returns-clause-exact : goal.returns-clause-exact
returns-clause-exact c =
    let now = c.args.self.now in
    let i = c.instruction-i.result.now in
    c.answer_at.ensures
    ∙ ap (λ (s : Stage). answer_at now (trap_line now.at.frame i) i.op s c.args.answer) c.stage_here-stage.ensures.stage
    ∙ ap (λ (o : Option Instruction). answer_by now o c.args.answer) (sym c.instruction-i.ensures.here)

pub returns-clause-stands : goal.returns-clause-stands
returns-clause-stands c =
    inl (subst (λ (t : Thread). StandsIn c.args.code.now t) (sym (returns-clause-exact c))
    (answer_stands c.args.code.now c.args.self.now c.args.answer c.functions-functions.ensures.well_formed
    (stands_still c.args.code.now c.args.self.now c.requires.stands (sym c.is_over.ensures ∙ c.if-is_over.false))))

pub returns-then-is_over-clause-exact : goal.returns-then-is_over-clause-exact
returns-then-is_over-clause-exact c = sym (answer_over c.args.code.now c.args.self.now c.args.answer (sym c.is_over.ensures ∙ c.if-is_over.true))
