use Rattle.c_types.proofs.Deriving.{list_one, one_list}
use Rattle.c_types.proofs.laws.parameter_lists_have_one_number.Goals as goal

pub returns-clause-one : goal.returns-clause-one
returns-clause-one c = λ list m n h k. list_one c.args.types.now c.len.ensures.once list m n h k

pub returns-clause-only : goal.returns-clause-only
returns-clause-only c = λ list other n h k. one_list c.args.types.now list other n h k
