-- Each is found by computing.
use Rattle.std.proofs.Common.{refl}
use Rattle.expr_gen.proofs.laws.assignments_have_code.Goals as goal

pub returns-clause-step : goal.returns-clause-step
returns-clause-step c = refl

pub returns-clause-store : goal.returns-clause-store
returns-clause-store c = refl

pub returns-clause-update : goal.returns-clause-update
returns-clause-update c = refl

pub returns-clause-copy : goal.returns-clause-copy
returns-clause-copy c = refl

pub returns-clause-exchange : goal.returns-clause-exchange
returns-clause-exchange c = refl

pub returns-clause-pair : goal.returns-clause-pair
returns-clause-pair c = refl
