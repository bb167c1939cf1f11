use Rattle.form_play.proofs.Beginnings.{beginnings_are_legal}
use Rattle.form_play.proofs.laws.beginnings_are_legal.Goals as goal

pub returns : goal.returns
returns c = beginnings_are_legal
