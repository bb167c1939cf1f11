use Rattle.c_scope.proofs.Merges.{linked_are_one}
use Rattle.c_scope.proofs.laws.names_with_linkage_are_one_thing.Goals as goal

pub returns : goal.returns
returns c = λ names r. linked_are_one names r
