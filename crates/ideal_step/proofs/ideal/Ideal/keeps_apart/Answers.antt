-- What an event and its answer name is what the event names and what the answer names.
use Rattle.std.proofs.Common.{◌≡◌, List, ℕ, All, IfSome, slice_get, false, subst, IsTrue, ◌↔◌}
use Rattle.ideal_machine.specs.Memory.{Object}
use Rattle.ideal_machine.specs.Names.{event_names, answer_names}
use Rattle.ideal_step.proofs.Parts.{two_parts}
use Rattle.ideal_step.proofs.ideal.Ideal.keeps_apart.Goals as goal

pub returns : goal.returns
returns c =
    let P : ℕ → Type 0 = λ n. IfSome (slice_get c.args.self.now.objects n) (λ (o : Object). o.covered ≡ false) in
    let q : IsTrue c.is_apart.result ↔ All P (answer_names c.args.answer.now) =
    subst (λ (l : List ℕ). IsTrue c.is_apart.result ↔ All P l) c.answer_name.ensures c.is_apart.ensures in
    two_parts P (event_names c.args.event.now) (answer_names c.args.answer.now) c.event_keeps_apart.result c.is_apart.result c.event_keeps_apart.ensures q
