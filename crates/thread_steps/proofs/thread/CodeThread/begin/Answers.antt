-- The first frame is that with which the function begins.
use Rattle.std.proofs.Common.{◌≡◌, ◌==◌, ℕ, ◌<◌, List, [], ◌∷◌, min, None, sym, ap, ◌∙◌, subst, Bool, inl}
use Rattle.ideal_machine.specs.declared.value.Value.{Value}
use Rattle.ideal_machine.specs.Values.{value_at}
use Rattle.whole_code.specs.Plain.{plain_function}
use Rattle.whole_thread.specs.declared.stage.Stage.TheVariants as stage
use Rattle.whole_thread.specs.Standing.{first_registers}
use Rattle.whole_thread.specs.Thread.{Thread, begins_at}
use Rattle.thread_steps.specs.Passing.{first_register}
use Rattle.thread_steps.specs.Stands.{StandsIn}
use Rattle.thread_steps.proofs.Passing.{first_filled}
use Rattle.thread_steps.proofs.Standing.{begin_stands}
use Rattle.thread_steps.proofs.thread.CodeThread.begin.Goals as goal

pub returns-clause-exact : goal.returns-clause-exact
returns-clause-exact c =
    let code = c.args.code.now in
    let now = c.args.self.now in
    let f = plain_function c.function-f.result.now in
    let argument : Value = record { number = c.args.address; half = c.args.half } in
    let rs = c.start.new.registers.items in
    let given : c.fewer-given.result ≡ min f.parameters 1 = c.fewer-given.ensures in
    let filled : (k : ℕ) → k < f.values → value_at rs k ≡ first_register argument (min f.parameters 1) k = λ k lt.
    c.start.ensures.filled k lt ∙ ap (λ g. first_register argument g k) given in
    let view : Bool → List Value → Thread = λ main l. record {
      id = c.args.id;
      main = main;
      at = record { callers = []; frame = record { function = c.args.function; index = 0; called_at = None; registers = l }; granted = None };
      stage = stage.Before;
    } in
    ap (λ l. view (c.args.function == c.main-main.result) l) (first_filled f argument rs c.start.ensures.long c.function-f.ensures.well_formed.values filled)
    ∙ ap (λ m. view (c.args.function == m) (first_registers f (argument ∷ []))) c.main-main.ensures.value
    ∙ ap (λ o. begins_at code c.args.id c.args.function argument o now) (sym c.function-f.ensures.value)

pub returns-clause-stands : goal.returns-clause-stands
returns-clause-stands c =
    inl (subst (λ (t : Thread). StandsIn c.args.code.now t) (sym (returns-clause-exact c))
    (begin_stands c.args.code.now c.args.id c.args.function (record { number = c.args.address; half = c.args.half }) c.args.self.now c.functions-functions.ensures.well_formed c.requires))
