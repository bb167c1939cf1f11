-- The operation that sets the bit.
use Rattle.std.proofs.Common.{ap}
use Rattle.heap_words.specs.declared.piece.Step.TheVariants.{Done}
use Rattle.free_redirect.proofs.Voiding.{steps, tells_freed}
use Rattle.free_redirect.proofs.laws.void_object_step.Goals as goal

pub returns-clause-steps : goal.returns-clause-steps
returns-clause-steps c = steps

pub returns-clause-freed : goal.returns-clause-freed
returns-clause-freed c piece answer = (λ told. (tells_freed answer).0 (let same = told in cc), λ bit. ap Done ((tells_freed answer).1 bit))
