-- The number's type has any set that is empty.
use Rattle.std.proofs.Common.{ap, ◌∙◌}
use Rattle.std.specs.Prelude.{slice_get}
use Rattle.c_types.specs.Declarators.{IsPlain}
use Rattle.c_declarations.proofs.Specifying.{plain_is_part}
use Rattle.c_declarations.proofs.specifier_list.basic_part.Goals as goal
use Rattle.c_declarations.proofs.specifier_list.basic_part.Goals.{After-plain_part}

plain : (c : After-plain_part) → IsPlain c.basic_number.new.types c.args.ty c.plain_part.result
plain c = (ap (slice_get c.basic_number.new.types) c.plain_part.ensures.number ∙ c.in_ok-number.ensures.number, c.plain_part.ensures.set)

pub returns-clause-plain : goal.returns-clause-plain
returns-clause-plain c = plain (goal.at.returns-clause-plain c).After-plain_part

pub returns-clause-part : goal.returns-clause-part
returns-clause-part c = plain_is_part c.basic_number.new.types c.args.ty c.plain_part.result (plain (goal.at.returns-clause-part c).After-plain_part)
