-- What a conversion gives is a value, congruent to what was converted, and the only such.
use Rattle.std.proofs.Common.{sym, ◌∙◌}
use Rattle.filc_num.proofs.Conversions.{IsValue-convert_of, convert_of-value, convert_of-congruent, same_value}
use Rattle.filc_num.proofs.laws.conversion_gives_the_congruent_value.Goals as goal

pub returns-clause-value : goal.returns-clause-value
returns-clause-value c = IsValue-convert_of c.args.ty c.args.v

pub returns-clause-stays : goal.returns-clause-stays
returns-clause-stays c = convert_of-value c.args.ty c.args.v

pub returns-clause-congruent : goal.returns-clause-congruent
returns-clause-congruent c = convert_of-congruent c.args.ty c.args.v

pub returns-clause-only : goal.returns-clause-only
returns-clause-only c = λ n u h e. same_value c.args.ty u _ h (IsValue-convert_of c.args.ty c.args.v) (e ∙ sym (convert_of-congruent c.args.ty c.args.v n))
