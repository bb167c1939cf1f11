-- An operator gives a value, case by case.
use Rattle.filc_num.proofs.Outcomes.{IsValue-binary_of, comparison_is_truth}
use Rattle.filc_num.proofs.laws.operators_give_values.Goals as goal

pub returns-clause-value : goal.returns-clause-value
returns-clause-value c = IsValue-binary_of c.args.op c.args.ty c.args.a c.args.b

pub returns-clause-truth : goal.returns-clause-truth
returns-clause-truth c = comparison_is_truth c.args.op c.args.ty c.args.a c.args.b
