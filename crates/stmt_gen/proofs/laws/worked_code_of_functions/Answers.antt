-- Each is found by computing.
use Rattle.std.proofs.Common.{refl}
use Rattle.stmt_gen.proofs.laws.worked_code_of_functions.Goals as goal

pub returns-clause-returned : goal.returns-clause-returned
returns-clause-returned c = (refl, refl)

pub returns-clause-function : goal.returns-clause-function
returns-clause-function c = refl
