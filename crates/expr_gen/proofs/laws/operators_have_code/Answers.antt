-- Each is found by computing.
use Rattle.std.proofs.Common.{refl}
use Rattle.expr_gen.proofs.laws.operators_have_code.Goals as goal

pub returns-clause-difference : goal.returns-clause-difference
returns-clause-difference c = refl

pub returns-clause-minus : goal.returns-clause-minus
returns-clause-minus c = refl

pub returns-clause-comparison : goal.returns-clause-comparison
returns-clause-comparison c = refl

pub returns-clause-conversion : goal.returns-clause-conversion
returns-clause-conversion c = refl

pub returns-clause-retreat : goal.returns-clause-retreat
returns-clause-retreat c = refl

pub returns-clause-distance : goal.returns-clause-distance
returns-clause-distance c = refl

pub returns-clause-element : goal.returns-clause-element
returns-clause-element c = refl
