-- The innermost activation that waits goes on.
use Rattle.std.proofs.Common.{◌≡◌, ◌-◌, List, ◌∷◌, sym, ap, ◌∙◌, subst, arith}
use Rattle.std.specs.Prelude.{All}
use Rattle.ideal_machine.specs.declared.value.Value.{Value}
use Rattle.whole_thread.specs.Standing.{Caller, register}
use Rattle.whole_thread.specs.Thread.{Thread, return_of, returns_to}
use Rattle.thread_steps.specs.Blocks.{caller_of, callers_of}
use Rattle.thread_steps.specs.Stands.{HasResult}
use Rattle.thread_steps.specs.Turns.{is_instruction}
use Rattle.thread_steps.proofs.Calls.{callers_first, result_there}
use Rattle.thread_steps.proofs.thread.CodeThread.return_value.Goals as goal

pub put-requires : goal.put-requires
put-requires c =
    let s = c.self.inside in
    result_there s.callers.items s.registers.items s.depth (s.depth - 1) c.index-caller.result.now
    (omega (arith, c.if-self-eq0.false)) (omega (arith, c.self.invariant.1, c.self.invariant.2)) c.index-caller.ensures
    (subst (λ (t : Thread). All HasResult t.at.callers) (sym c.self.view_is) c.requires.results)

pub returns-clause-wanted : goal.returns-clause-wanted
returns-clause-wanted c =
    let s = c.self.inside in
    let rs = s.registers.items in
    let n = s.depth - 1 in
    let a = c.index-caller.result.now in
    let first : callers_of s.callers.items rs s.depth ≡ caller_of rs n a ∷ callers_of s.callers.items rs n =
    callers_first s.callers.items rs s.depth n a (omega (arith, c.if-self-eq0.false)) (omega (arith, c.self.invariant.1, c.self.invariant.2)) c.index-caller.ensures in
    let e : c.args.self.now.at.callers ≡ caller_of rs n a ∷ callers_of s.callers.items rs n = ap (λ (t : Thread). t.at.callers) (sym c.self.view_is) ∙ first in
    ap (λ (cs : List Caller). is_instruction (return_of c.args.self.now.main cs (register c.args.self.now.at c.args.a))) (sym e)

pub returns-clause-exact : goal.returns-clause-exact
returns-clause-exact c =
    let s = c.self.inside in
    let rs = s.registers.items in
    let n = s.depth - 1 in
    let a = c.index-caller.result.now in
    let now = c.args.self.now in
    let first : callers_of s.callers.items rs s.depth ≡ caller_of rs n a ∷ callers_of s.callers.items rs n =
    callers_first s.callers.items rs s.depth n a (omega (arith, c.if-self-eq0.false)) (omega (arith, c.self.invariant.1, c.self.invariant.2)) c.index-caller.ensures in
    let e : now.at.callers ≡ caller_of rs n a ∷ callers_of s.callers.items rs n = ap (λ (t : Thread). t.at.callers) (sym c.self.view_is) ∙ first in
    c.put.ensures
    ∙ ap (λ (t : Thread). returns_to t (caller_of rs n a ∷ callers_of s.callers.items rs n) c.value_of-value.result) c.self.view_is
    ∙ ap (λ (cs : List Caller). returns_to now cs c.value_of-value.result) (sym e)
    ∙ ap (λ (v : Value). returns_to now now.at.callers v) c.value_of-value.ensures
