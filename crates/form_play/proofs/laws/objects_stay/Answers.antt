use Rattle.form_play.proofs.Objects.{objects_stay, objects_never_move}
use Rattle.form_play.proofs.laws.objects_stay.Goals as goal

pub returns-clause-objects : goal.returns-clause-objects
returns-clause-objects c = objects_stay

pub returns-clause-addresses : goal.returns-clause-addresses
returns-clause-addresses c = objects_never_move
