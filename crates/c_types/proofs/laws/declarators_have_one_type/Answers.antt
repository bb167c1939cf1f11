use Rattle.std.proofs.Common.{ap}
use Rattle.c_types.specs.declared.ctype.Part.{Part}
use Rattle.c_types.proofs.Deriving.{derived_one}
use Rattle.c_types.proofs.laws.declarators_have_one_type.Goals as goal

pub returns : goal.returns
returns c = λ base p q ds h k.
    let same = derived_one c.args.types.now c.len.ensures.once base ds p q h k in
    (ap (λ (x : Part). x.number) same, ap (λ (x : Part). x.qualifiers.0) same)
