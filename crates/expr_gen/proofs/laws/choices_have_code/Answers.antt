-- Each is found by computing.
use Rattle.std.proofs.Common.{refl}
use Rattle.expr_gen.proofs.laws.choices_have_code.Goals as goal

pub returns-clause-and : goal.returns-clause-and
returns-clause-and c = refl

pub returns-clause-or : goal.returns-clause-or
returns-clause-or c = refl

pub returns-clause-choice : goal.returns-clause-choice
returns-clause-choice c = refl

pub returns-clause-print : goal.returns-clause-print
returns-clause-print c = refl
