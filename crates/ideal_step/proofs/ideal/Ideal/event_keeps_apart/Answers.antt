-- An event's names are three at most, and each is tried.
use Rattle.std.proofs.Common.{◌≡◌, ℕ, IfSome, slice_get, false}
use Rattle.ideal_machine.specs.Memory.{Object}
use Rattle.ideal_step.proofs.Parts.{three_parts}
use Rattle.ideal_step.proofs.ideal.Ideal.event_keeps_apart.Goals as goal

pub returns : goal.returns
returns c =
    let P : ℕ → Type 0 = λ n. IfSome (slice_get c.args.self.now.objects n) (λ (o : Object). o.covered ≡ false) in
    three_parts P _ _ _ _ c.is_apart.result c.is_apart-2.result c.is_apart-3.result c.event_names-names.ensures c.is_apart.ensures c.is_apart-2.ensures c.is_apart-3.ensures
