-- What is read of well-formed code may use what it names.
use Rattle.std.proofs.Common.{◌≡◌, ◌<◌, length, sym, ap, ◌∙◌, subst}
use Rattle.whole_code.specs.declared.op.Instruction.{Instruction}
use Rattle.whole_code.specs.Plain.{PlainFunction, plain_function}
use Rattle.whole_code.specs.WellFormed.{named_in, IsOpWellFormed, IsFunctionWellFormed}
use Rattle.whole_thread.specs.Thread.{Thread}
use Rattle.thread_steps.proofs.Standing.{all_at}
use Rattle.thread_steps.proofs.Usable.{usable, same_function}
use Rattle.thread_steps.proofs.thread.CodeThread.instruction_in.Goals as goal

pub returns-clause-usable : goal.returns-clause-usable
returns-clause-usable c =
    let code = c.args.code.now in
    let now = c.args.self.now in
    let f = plain_function c.args.f.now in
    let i = c.index.result.now in
    let index = c.self.inside.index in
    let stands = c.requires.stands.frame in
    let running : stands.running ≡ f = same_function stands.running f (sym stands.there ∙ c.requires.function) in
    let long : length now.at.frame.registers ≡ f.values = stands.registers ∙ ap (λ (x : PlainFunction). x.values) running in
    let inside : now.at.frame.index < length f.instructions = subst (λ (x : PlainFunction). now.at.frame.index < length x.instructions) running stands.inside in
    let lt : index < length f.instructions = subst (λ (t : Thread). t.at.frame.index < length f.instructions) (sym c.self.view_is) inside in
    let function : IsFunctionWellFormed (named_in code) f = all_at (IsFunctionWellFormed (named_in code)) code.functions now.at.frame.function f c.requires.formed.functions c.requires.function in
    let formed : IsOpWellFormed (named_in code) f i.op =
    subst (λ (x : Instruction). IsOpWellFormed (named_in code) f x.op) (sym c.index.ensures) (function.each index i lt) in
    usable code now f long i.op formed
