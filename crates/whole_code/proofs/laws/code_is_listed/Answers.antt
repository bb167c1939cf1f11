-- Each is found by computing.
use Rattle.std.proofs.Common.{refl}
use Rattle.std.specs.Fmt.{digits}
use Rattle.whole_code.proofs.laws.code_is_listed.Goals as goal

pub returns-clause-functions : goal.returns-clause-functions
unfolding digits
returns-clause-functions c = refl

pub returns-clause-registers : goal.returns-clause-registers
unfolding digits
returns-clause-registers c = (refl, refl, refl, refl, refl, refl, refl, refl, refl, refl, refl, refl, refl, refl)

pub returns-clause-memory : goal.returns-clause-memory
unfolding digits
returns-clause-memory c = (refl, refl, refl, refl, refl, refl, refl, refl, refl, refl)

pub returns-clause-calls : goal.returns-clause-calls
unfolding digits
returns-clause-calls c = (refl, refl, refl, refl, refl, refl, refl, refl, refl, refl, refl, refl, refl, refl)
