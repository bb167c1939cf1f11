-- Two conversions, one after the other.
use Rattle.filc_num.proofs.Conversions.{convert_of-twice, convert_of-back, convert_of-value, IsValue-wider, value_of_wider}
use Rattle.filc_num.proofs.laws.conversions_in_a_row.Goals as goal

pub returns-clause-twice : goal.returns-clause-twice
returns-clause-twice c = convert_of-twice c.args.from c.args.ty c.args.v

pub returns-clause-back : goal.returns-clause-back
returns-clause-back c = convert_of-back c.args.from c.args.ty c.args.v

pub returns-clause-widened : goal.returns-clause-widened
returns-clause-widened c = λ h low high. convert_of-value c.args.ty c.args.v (IsValue-wider c.args.from c.args.ty c.args.v h low high)

pub returns-clause-same_integer : goal.returns-clause-same_integer
returns-clause-same_integer c = value_of_wider c.args.from c.args.ty c.args.v
