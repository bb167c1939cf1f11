-- Values and the integers of the range, one for one.
use Rattle.filc_num.specs.Integers.{bits_of}
use Rattle.filc_num.proofs.Conversions.{IsValue-convert_of, value_of-wrap, value_of-injective}
use Rattle.filc_num.proofs.laws.values_stand_for_the_integers_of_the_range.Goals as goal

pub returns-clause-wraps : goal.returns-clause-wraps
returns-clause-wraps c = λ z. IsValue-convert_of c.args.ty (bits_of z)

pub returns-clause-exact : goal.returns-clause-exact
returns-clause-exact c = value_of-wrap c.args.ty

pub returns-clause-one : goal.returns-clause-one
returns-clause-one c = value_of-injective c.args.ty
