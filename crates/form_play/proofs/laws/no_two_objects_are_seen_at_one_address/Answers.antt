use Rattle.form_play.proofs.Objects.{objects_are_apart, covered_objects_are_not_named}
use Rattle.form_play.proofs.laws.no_two_objects_are_seen_at_one_address.Goals as goal

pub returns-clause-apart : goal.returns-clause-apart
returns-clause-apart c = objects_are_apart

pub returns-clause-covered : goal.returns-clause-covered
returns-clause-covered c = covered_objects_are_not_named
