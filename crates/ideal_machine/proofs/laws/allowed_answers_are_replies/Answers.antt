use Rattle.ideal_machine.proofs.Fits.{allowed_answers_are_replies, allowed_checks_are_replies}
use Rattle.ideal_machine.proofs.laws.allowed_answers_are_replies.Goals as goal

pub returns-clause-events : goal.returns-clause-events
returns-clause-events c = allowed_answers_are_replies

pub returns-clause-checks : goal.returns-clause-checks
returns-clause-checks c = allowed_checks_are_replies
