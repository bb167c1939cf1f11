-- One operation.
use Rattle.free_redirect.proofs.Voiding.{ends}
use Rattle.free_redirect.proofs.laws.void_object_alone.Goals as goal

pub returns : goal.returns
returns c = ends
