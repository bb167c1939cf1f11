use Rattle.form_play.proofs.More.{more_rounds}
use Rattle.form_play.proofs.laws.histories_stay_legal.Goals as goal

pub returns : goal.returns
returns c = more_rounds
