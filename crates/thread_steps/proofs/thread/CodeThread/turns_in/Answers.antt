-- Each turn of the loop leads on by one.
use Rattle.std.proofs.Common.{◌≡◌, ℕ, ◌+◌, Some, Bool, true, slice_get, sym, ap, ◌∙◌, subst}
use Rattle.whole_code.specs.Plain.{plain_function}
use Rattle.whole_thread.specs.Thread.{Thread, want_of}
use Rattle.thread_steps.specs.Turns.{is_instruction, thread_after_turn, Leads}
use Rattle.thread_steps.proofs.Leads.{leads_none, leads_more, before_wants}
use Rattle.thread_steps.proofs.Turns.{turn_here, new_stands}
use Rattle.thread_steps.proofs.thread.CodeThread.turns_in.Goals as goal

pub loop-done-init : goal.loop-done-init
loop-done-init c = record {
  stands = c.requires.stands;
  before = c.requires.before;
  function = c.requires.function;
  leads = leads_none c.args.code.now c.args.places.now c.args.self.now;
}

pub loop-done-preserved : goal.loop-done-preserved
loop-done-preserved c =
    let code = c.args.code.now in
    let places = c.args.places.now in
    let now = c.loop-done.self in
    let i = c.instruction_in-i.result.now in
    let at = c.instruction_in-i.ensures.here in
    let h = c.loop-done.invariant in
    let done : c.act_within.result ≡ true = c.if-not-act_within.false in
    let exact : c.act_within.new.self ≡ thread_after_turn true code places now =
    turn_here code now i at c.act_within.result places c.act_within.new.self c.act_within.ensures.exact
    ∙ ap (λ (b : Bool). thread_after_turn b code places now) done in
    let wants : is_instruction (want_of code now) ≡ true = before_wants code now i at h.before (c.act_within.ensures.wanted done) in
    record {
      stands = new_stands code true places now c.act_within.new.self c.requires.formed h.stands exact;
      before = c.act_within.ensures.before;
      function = subst (λ (n : ℕ). slice_get code.functions n ≡ Some (plain_function c.args.f.now)) (sym c.act_within.ensures.function) h.function;
      leads = subst (λ (t : Thread). Leads code places (c.loop-done.done + 1) c.args.self.now t) (sym exact) (leads_more code places c.loop-done.done c.args.self.now now h.leads wants);
    }
