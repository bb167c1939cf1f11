-- The caller waits below the frame of the callee, which was filled.
use Rattle.std.proofs.Common.{◌≡◌, ℕ, suc, ◌+◌, ◌*◌, ◌<◌, List, ◌∷◌, length, set, min, Some, None, sym, ap, ◌∙◌, arith}
use Rattle.std.proofs.lemmas.List.{length-set}
use Rattle.ideal_machine.specs.declared.value.Value.{Value}
use Rattle.ideal_machine.specs.Values.{value_at}
use Rattle.whole_code.specs.Plain.{plain_function}
use Rattle.whole_thread.specs.declared.stage.Stage.TheVariants as stage
use Rattle.whole_thread.specs.Standing.{Caller, first_registers, registers_from}
use Rattle.whole_thread.specs.Act.{caller_at, entering}
use Rattle.whole_thread.specs.Thread.{Thread, before}
use Rattle.thread_steps.specs.declared.activation.Activation.{Activation}
use Rattle.thread_steps.specs.Blocks.{frame_registers, caller_of, callers_of}
use Rattle.thread_steps.specs.Passing.{callee_register}
use Rattle.thread_steps.proofs.Blocks.{frame_short}
use Rattle.thread_steps.proofs.Passing.{frame_filled}
use Rattle.thread_steps.proofs.Calls.{callers_long, callers_pushed}
use Rattle.thread_steps.proofs.thread.CodeThread.push.Goals as goal

pub fill-requires-clause-base : goal.fill-requires-clause-base
fill-requires-clause-base c =
    let s = c.self.inside in
    let base : s.base ≡ 256 * s.depth = c.self.invariant.3 in
    let deep : length (callers_of s.callers.items s.registers.items s.depth) ≡ length c.args.self.now.at.callers = ap (λ (t : Thread). length t.at.callers) c.self.view_is in
    omega (arith, base, deep, callers_long s.callers.items s.registers.items s.depth, c.requires.depth)

pub fill-requires-clause-arguments : goal.fill-requires-clause-arguments
fill-requires-clause-arguments c = λ k lt.
    let s = c.self.inside in
    let within : k < c.args.arguments.1 = omega (arith, lt, c.fewer-given.ensures) in
    let long : length (frame_registers s.registers.items s.depth s.values) ≡ length c.args.self.now.at.frame.registers = ap (λ (t : Thread). length t.at.frame.registers) c.self.view_is in
    omega (arith, c.requires.arguments k within, long, frame_short s.registers.items s.depth s.values)

pub invariant_of-self : goal.invariant_of-self
invariant_of-self c =
    let s = c.self.inside in
    let base : s.base ≡ 256 * s.depth = c.self.invariant.3 in
    let deep : length (callers_of s.callers.items s.registers.items s.depth) ≡ length c.args.self.now.at.callers = ap (λ (t : Thread). length t.at.callers) c.self.view_is in
    let next : s.base + 256 ≡ 256 * (s.depth + 1) = omega (arith, base) in (
      c.fill.ensures.long,
      length-set s.callers.items s.depth _ ∙ c.self.invariant.1,
      omega (arith, deep, callers_long s.callers.items s.registers.items s.depth, c.requires.depth),
      next,
      tt,
      tt,
    )

pub returns : goal.returns
returns c =
    let s = c.self.inside in
    let now = c.args.self.now in
    let old = s.registers.items in
    let new = c.fill.new.registers.items in
    let waiting = s.callers.items in
    let f = plain_function c.args.f.now in
    let first = c.args.arguments.0 in
    let count = c.args.arguments.1 in
    let a : Activation = record { function = s.function; index = s.index + 1; called_at = s.called_at; values = s.values; result = c.args.d } in
    let base : s.base ≡ 256 * s.depth = c.self.invariant.3 in
    let deep : length (callers_of waiting old s.depth) ≡ length now.at.callers = ap (λ (t : Thread). length t.at.callers) c.self.view_is in
    let shallow : s.depth + 1 < 1024 = omega (arith, deep, callers_long waiting old s.depth, c.requires.depth) in
    let long : length (frame_registers old s.depth s.values) ≡ length now.at.frame.registers = ap (λ (t : Thread). length t.at.frame.registers) c.self.view_is in
    let same_long : length new ≡ length old = c.fill.ensures.long ∙ sym c.self.invariant.0 in
    let have : (i : ℕ) → i < count → first + i < length (frame_registers old s.depth s.values) = λ i lt. omega (arith, c.requires.arguments i lt, long) in
    let below : (k : ℕ) → k < 256 * s.depth + 256 → value_at new k ≡ value_at old k = λ k lt. c.fill.ensures.below k (omega (arith, lt, base)) in
    let given : c.fewer-given.result ≡ min f.parameters count = c.fewer-given.ensures in
    let filled : (k : ℕ) → k < f.values → value_at new (256 * s.depth + 256 + k) ≡ callee_register old (256 * s.depth + first) (min f.parameters count) k = λ k lt.
    ap (λ b. value_at new (b + 256 + k)) (sym base) ∙ c.fill.ensures.filled k lt
    ∙ ap (λ b. callee_register old (b + first) c.fewer-given.result k) base ∙ ap (λ g. callee_register old (256 * s.depth + first) g k) given in
    let one : s.depth + 1 ≡ suc s.depth = omega arith in
    let view : List Caller → List Value → Thread = λ cs l. record {
      id = s.id;
      main = s.main;
      at = record { callers = cs; frame = record { function = c.args.function; index = 0; called_at = Some c.args.line; registers = l }; granted = None };
      stage = stage.Before;
    } in
    ap (λ n. view (callers_of (set waiting s.depth a) new n) (frame_registers new n f.values)) one
    ∙ ap (λ cs. view cs (frame_registers new (suc s.depth) f.values)) (callers_pushed waiting a old new s.depth (omega (arith, c.self.invariant.1, c.self.invariant.2)) same_long below)
    ∙ ap (λ l. view (caller_of old s.depth a ∷ callers_of waiting old s.depth) l)
    (frame_filled old s.depth first count f s.values new c.fill.ensures.long shallow c.requires.values have filled)
    ∙ ap (λ (t : Thread). before t (entering (caller_at t.at c.args.d ∷ t.at.callers) c.args.function (Some c.args.line) (first_registers f (registers_from t.at first count)))) c.self.view_is
