use Rattle.ideal_machine.proofs.Inside.{checks_are_exact, frees_are_exact}
use Rattle.ideal_machine.proofs.laws.refusals_are_exact.Goals as goal

pub returns-clause-checks : goal.returns-clause-checks
returns-clause-checks c = checks_are_exact

pub returns-clause-frees : goal.returns-clause-frees
returns-clause-frees c = frees_are_exact
