-- An event's names are three at most, and each is tried.
use Rattle.std.proofs.Common.{ℕ, ◌<◌, length}
use Rattle.ideal_step.proofs.Parts.{three_parts}
use Rattle.ideal_step.proofs.ideal.Ideal.names_objects.Goals as goal

pub returns : goal.returns
returns c =
    let P : ℕ → Type 0 = λ n. n < length c.args.self.now.objects in
    three_parts P _ _ _ _ c.is_there.result c.is_there-2.result c.is_there-3.result c.event_names-names.ensures c.is_there.ensures c.is_there-2.ensures c.is_there-3.ensures
