-- There is room for one more activation, or none.
use Rattle.std.proofs.Common.{◌≡◌, ℕ, zero, suc, ◌<◌, length, Some, refl, sym, ap, ◌∙◌, arith}
use Rattle.filc_num.specs.declared.reason.Reason.TheVariants.{CallDepth}
use Rattle.ideal_machine.specs.Phrases.{if_zero}
use Rattle.whole_code.specs.Plain.{plain_function}
use Rattle.whole_thread.specs.declared.stage.Stage.TheVariants as stage
use Rattle.whole_thread.specs.Standing.{room, trap_line, registers_from}
use Rattle.whole_thread.specs.Thread.{Thread, at_stage, enters}
use Rattle.std.specs.Prelude.{slice_get}
use Rattle.thread_steps.specs.Blocks.{callers_of}
use Rattle.thread_steps.proofs.Calls.{callers_long}
use Rattle.thread_steps.proofs.thread.CodeThread.enter.Goals as goal

not_zero : (n : ℕ) (a b : Thread) → 0 < n → if_zero n a b ≡ b
not_zero zero a b lt = absurd (omega (arith, lt))
not_zero (suc n) a b lt = refl

pub push-requires-clause-depth : goal.push-requires-clause-depth
push-requires-clause-depth c =
    let s = c.self.inside in
    let deep : length (callers_of s.callers.items s.registers.items s.depth) ≡ length c.args.self.now.at.callers = ap (λ (t : Thread). length t.at.callers) c.self.view_is in
    omega (arith, deep, callers_long s.callers.items s.registers.items s.depth, c.if-self-lt-FURTHER_ACTIVATIONS.true)

pub returns-then-self-lt-FURTHER_ACTIVATIONS : goal.returns-then-self-lt-FURTHER_ACTIVATIONS
returns-then-self-lt-FURTHER_ACTIVATIONS c =
    let s = c.self.inside in
    let now = c.args.self.now in
    let passed = registers_from now.at c.args.arguments.0 c.args.arguments.1 in
    let line = trap_line now.at.frame c.args.i.now in
    let deep : length (callers_of s.callers.items s.registers.items s.depth) ≡ length now.at.callers = ap (λ (t : Thread). length t.at.callers) c.self.view_is in
    let left : 0 < room now.at = omega (arith, deep, callers_long s.callers.items s.registers.items s.depth, c.if-self-lt-FURTHER_ACTIVATIONS.true) in
    c.push.ensures
    ∙ ap (λ l. enters now l c.args.d c.args.function passed (Some (plain_function c.function.result.now))) c.line-line.ensures
    ∙ ap (λ o. enters now line c.args.d c.args.function passed o) (sym c.function.ensures.value)
    ∙ sym (not_zero (room now.at) (at_stage now (stage.Traps CallDepth line)) (enters now line c.args.d c.args.function passed (slice_get c.args.code.now.functions c.args.function)) left)

pub returns-else-self-lt-FURTHER_ACTIVATIONS : goal.returns-else-self-lt-FURTHER_ACTIVATIONS
returns-else-self-lt-FURTHER_ACTIVATIONS c =
    let s = c.self.inside in
    let now = c.args.self.now in
    let passed = registers_from now.at c.args.arguments.0 c.args.arguments.1 in
    let line = trap_line now.at.frame c.args.i.now in
    let deep : length (callers_of s.callers.items s.registers.items s.depth) ≡ length now.at.callers = ap (λ (t : Thread). length t.at.callers) c.self.view_is in
    let full : room now.at ≡ 0 = omega (arith, deep, callers_long s.callers.items s.registers.items s.depth, c.if-self-lt-FURTHER_ACTIVATIONS.false) in
    c.trap.ensures
    ∙ ap (λ n. if_zero n (at_stage now (stage.Traps CallDepth line)) (enters now line c.args.d c.args.function passed (slice_get c.args.code.now.functions c.args.function))) (sym full)
