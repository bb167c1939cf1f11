-- It is found by computing.
use Rattle.std.proofs.Common.{refl}
use Rattle.filc_num.specs.Integers.{convert_of, binary_of}
use Rattle.whole_thread.proofs.laws.threads_walk_from_event_to_event.Goals as goal

pub returns-clause-names : goal.returns-clause-names
unfolding convert_of binary_of
returns-clause-names c = (refl, (refl, refl))

pub returns-clause-statics : goal.returns-clause-statics
unfolding convert_of binary_of
returns-clause-statics c = (refl, (refl, (refl, (refl, refl))))

pub returns-clause-library_step : goal.returns-clause-library_step
unfolding convert_of binary_of
returns-clause-library_step c = (refl, (refl, refl))
