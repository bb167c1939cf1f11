-- One instruction by itself, and those behind it that leave the thread in its function.
use Rattle.std.proofs.Common.{◌≡◌, ◌+◌, ℕ, Bool, true, sym, ap, ◌∙◌, subst, arith}
use Rattle.whole_thread.specs.Thread.{Thread}
use Rattle.thread_steps.specs.Turns.{thread_after_turn, Leads}
use Rattle.thread_steps.proofs.Leads.{leads_more, leads_after, leads_exactly, leads_stop, leads_all}
use Rattle.thread_steps.proofs.thread.CodeThread.turns.Goals as goal

pub loop-done-preserved : goal.loop-done-preserved
loop-done-preserved c =
    let code = c.args.code.now in
    let places = c.args.places.now in
    let old = c.args.self.now in
    let now = c.loop-done.self in
    let next = c.step.new.self in
    let done = c.loop-done.done in
    let exact : next ≡ thread_after_turn true code places now =
    c.step.ensures.exact ∙ ap (λ (b : Bool). thread_after_turn b code places now) c.if-not-step.false in
    let first : Leads code places (done + 1) old next =
    subst (λ (t : Thread). Leads code places (done + 1) old t) (sym exact)
    (leads_more code places done old now c.loop-done.invariant.leads (sym c.step.ensures.wanted ∙ c.if-not-step.false)) in
    record {
      within = omega (arith, c.turns_here-done.ensures.within);
      stands = c.turns_here-done.ensures.stands;
      leads = leads_after code places (done + 1) old next c.turns_here-done.new.self c.turns_here-done.result first c.turns_here-done.ensures.leads;
    }

pub returns-then-not-step-clause-count : goal.returns-then-not-step-clause-count
returns-then-not-step-clause-count c =
    leads_stop c.args.code.now c.args.places.now c.loop-done.done c.args.most c.args.self.now c.loop-done.self
    c.loop-done.invariant.within c.loop-done.invariant.leads (sym c.step.ensures.wanted ∙ c.if-not-step.true)

pub returns-then-not-step-clause-exact : goal.returns-then-not-step-clause-exact
returns-then-not-step-clause-exact c =
    let code = c.args.code.now in
    let places = c.args.places.now in
    c.step.ensures.exact
    ∙ ap (λ (b : Bool). thread_after_turn b code places c.loop-done.self) c.if-not-step.true
    ∙ leads_exactly code places c.loop-done.done c.args.self.now c.loop-done.self c.loop-done.invariant.leads

pub returns-clause-count : goal.returns-clause-count
returns-clause-count c =
    let code = c.args.code.now in
    let places = c.args.places.now in
    let all : c.loop-done.done ≡ c.args.most = omega (arith, c.loop-done.invariant.within, c.loop-done-test.false) in
    all
    ∙ leads_all code places c.args.most c.args.self.now c.loop-done.self
    (subst (λ (n : ℕ). Leads code places n c.args.self.now c.loop-done.self) all c.loop-done.invariant.leads)

pub returns-clause-exact : goal.returns-clause-exact
returns-clause-exact c = leads_exactly c.args.code.now c.args.places.now c.loop-done.done c.args.self.now c.loop-done.self c.loop-done.invariant.leads
